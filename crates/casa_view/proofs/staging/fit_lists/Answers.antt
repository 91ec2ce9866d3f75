use Rattle.std.proofs.Common.{◌≡◌, sym, ap, ◌∙◌, subst}
use Rattle.std.proofs.lemmas.Result.{on_ok_weaker}
use Rattle.casa_filing.specs.Text.{Text, at_name}
use Rattle.casa_flight.specs.Good.{AreInOrder}
use Rattle.casa_table.specs.Laid.{with_changes}
use Rattle.casa_table.proofs.Layers.{at-laid, sorted-laid}
use Rattle.casa_view.specs.Next.{AreAlike, NextList, NextStand, list_among}
use Rattle.casa_view.proofs.Turned.{laid_lists, alike_at}
use Rattle.casa_view.proofs.Stood.{listed_next}
use Rattle.casa_view.proofs.staging.fit_lists.Goals as goal

pub returns-clause-ready : goal.returns-clause-ready
returns-clause-ready g c =
    let version = g.K.Version.Version in
    let n = c.args.position in
    let written = c.args.change.now in
    let here = c.args.lists.now.entries in
    let versions = c.in_ok-versions.versions.entries in
    let all = c.in_ok-all.all.entries in
    let all_in_order : AreInOrder all = c.in_ok-all.ensures.ordered c.in_ok-versions.ensures.ordered in
    let alike = subst (λ es. AreAlike (NextList version.item_of version.stamp_of n) es versions) c.lists.ensures c.in_ok-versions.ensures.versions in
    let next = λ (q : Text).
    subst (λ es. NextStand version.item_of version.stamp_of n (list_among version.item_of es) q (at_name written.stands q) (at_name versions q) (at_name all q))
    c.spare-empty.ensures.same
    (subst (λ ss. NextStand version.item_of version.stamp_of n (list_among version.item_of c.spare-empty.new.self.entries) q (at_name ss q) (at_name versions q) (at_name all q))
    c.stands-stands.ensures (c.in_ok-all.ensures.versions q)) in
    let same : c.fit.new.self.entries ≡ here = c.fit.ensures.same ∙ c.spare-empty.ensures.same in
    on_ok_weaker c.fit.result
    (λ laid. (
      subst (λ es. AreInOrder es) (sym laid) (sorted-laid all _ (subst (λ es. AreInOrder es) (sym same) c.requires)),
      λ q. laid_lists version.item_of version.stamp_of n _ (at_name all q) (at_name here q) _
          (ap (λ es. at_name es q) laid ∙ ap (λ es. at_name (with_changes all es) q) same ∙ at-laid q all here all_in_order c.requires)
          (listed_next version.item_of version.stamp_of n (list_among version.item_of here) written versions all q
          (alike_at _ q written.lists versions alike) (next q)),
    ))
    c.fit.ensures.next
