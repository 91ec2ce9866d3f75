use Rattle.std.proofs.Common.{◌≡◌, ◌∙◌, Ok, Err, true, false, cond, ap, sym, is_some}
use Rattle.std.specs.Option.{option_map_or}
use Rattle.std.specs.List.{slice_get}
use Rattle.casa_filing.specs.Text.{Text, at_name, same_text}
use Rattle.casa_list.specs.Standings.{count_before}
use Rattle.casa_list.proofs.Keyed.{found_there}
use Rattle.casa_named.proofs.sorted.Sorted.find.Goals as goal

pub returns-then-has_at-clause-place : goal.returns-then-has_at-clause-place
returns-then-has_at-clause-place g c =
    let es = c.args.self.now in
    let k = c.args.name.now in
    let there : is_some (at_name es k) ≡ true =
    sym (found_there k es c.count_before-at.ensures.ordered)
    ∙ ap (λ i. option_map_or (λ (e : Text × g.row.X.Denot). same_text e.0 k) (slice_get es i) false) (sym c.count_before-at.ensures.number)
    ∙ sym c.has_at.ensures ∙ c.if-has_at.true in
    (λ i. cond (sym there i) (Ok (c.count_before-at.ensures.number i)) (Err (count_before es k)))

pub returns-else-has_at-clause-place : goal.returns-else-has_at-clause-place
returns-else-has_at-clause-place g c =
    let es = c.args.self.now in
    let k = c.args.name.now in
    let there : is_some (at_name es k) ≡ false =
    sym (found_there k es c.count_before-at.ensures.ordered)
    ∙ ap (λ i. option_map_or (λ (e : Text × g.row.X.Denot). same_text e.0 k) (slice_get es i) false) (sym c.count_before-at.ensures.number)
    ∙ sym c.has_at.ensures ∙ c.if-has_at.false in
    (λ i. cond (sym there i) (Ok (count_before es k)) (Err (c.count_before-at.ensures.number i)))
