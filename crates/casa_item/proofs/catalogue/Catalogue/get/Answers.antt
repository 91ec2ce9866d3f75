use Rattle.std.proofs.Common.{rules, List, length, get_or, ◌<◌, ◌≡◌, Some, sym, subst, ap, ◌∙◌}
use Rattle.std.specs.declared.cmp.Ordering.{Ordering}
use Rattle.std.specs.declared.cmp.Ordering.TheVariants.{Less, Equal, Greater}
use Rattle.std.specs.Ordering.{ordering_index}
use Rattle.std.specs.List.Sorted.{IsNonDecreasingBy, IsPartitionPoint}
use Rattle.std.proofs.lemmas.Fn.{always_returns_same}
use Rattle.casa_filing.specs.declared.regulation.Regulation.{Regulation}
use Rattle.casa_filing.specs.Text.{at_name}
use Rattle.casa_filing.proofs.Entries.{text_cmp}
use Rattle.casa_footprint.specs.Finding.{by_id}
use Rattle.casa_item.specs.Crossed.{AreListed}
use Rattle.casa_item.proofs.Listed.{searchable_by_id, found_at, none_found}
use Rattle.casa_item.proofs.catalogue.Catalogue.get.Goals as goal

pub returns-in-Ok-clause-regulation : goal.returns-in-Ok-clause-regulation
returns-in-Ok-clause-regulation c =
    let cmp : Regulation → Ordering = λ r. text_cmp r.id c.args.id.now in
    let rs = c.self.inside.regulations.items in
    let at = c.in-Ok.ensures.position cmp (always_returns_same _ _ _ (λ a r f' k. search rules)) in
    let here : cmp (get_or rs c.in-Ok.at c.index.result.now) ≡ Equal =
    subst (λ (ss : List Regulation). cmp (get_or ss c.in-Ok.at c.index.result.now) ≡ Equal) c.deref.ensures.value
    (at c.index.result.now) in
    let below : c.in-Ok.at < length rs =
    subst (λ (ss : List Regulation). c.in-Ok.at < length ss) c.deref.ensures.value c.in-Ok.ensures.bound in
    ap Some c.index.ensures
    ∙ sym (found_at c.args.id.now rs c.self.invariant.listed c.in-Ok.at c.index.result.now below here)
    ∙ ap (λ (ss : List Regulation). at_name (by_id ss) c.args.id.now) c.self.view_is

pub returns-in-Err-clause-regulation : goal.returns-in-Err-clause-regulation
returns-in-Err-clause-regulation c =
    let cmp : Regulation → Ordering = λ r. text_cmp r.id c.args.id.now in
    let is = c.deref.ensures.value ∙ c.self.view_is in
    let at = c.in-Err.ensures.position cmp (always_returns_same _ _ _ (λ a r f' k. search rules)) in
    let there = subst (λ (rs : List Regulation). IsNonDecreasingBy (λ (r : Regulation). ordering_index (cmp r)) rs
    → IsPartitionPoint (λ (r : Regulation). cmp r ≡ Less)
    (λ (r : Regulation). cmp r ≡ Greater) rs c.in-Err.field-0) is at in
    let listed = subst AreListed c.self.view_is c.self.invariant.listed in
    sym (none_found c.args.id.now c.args.self.now c.in-Err.field-0
    (there (searchable_by_id c.args.id.now c.args.self.now listed)))
