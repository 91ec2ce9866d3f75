use Rattle.std.proofs.Common.{◌≡◌, ◌∙◌, ◌∷◌, ◌++◌, [], Some, ap, sym, rules}
use Rattle.casa_flight.specs.declared.comp.Assigned.{Assigned}
use Rattle.casa_flight.specs.declared.row.Stance.{Stance}
use Rattle.casa_flight.specs.declared.row.Stance.TheVariants.{Competing}
use Rattle.casa_filing.specs.Text.{Text}
use Rattle.casa_flight.specs.Listing.{competitor}
use Rattle.casa_list.proofs.AtOnce.{kind_more, kind_same, not_competing}
use Rattle.casa_list.proofs.build.competing_by_key.Goals as goal
use Rattle.casa_list.proofs.build.competing_by_key.Goals.{in-Competing+in_ok-push, in_default}

pub loop-member-preserved : goal.loop-member-preserved
loop-member-preserved c =
    let es = c.as_slice-member-items.result.now in
    let i = c.loop-member.member-index in
    let e = c.member-item.result in
    let xs = c.loop-member.all.items in
    let ys = c.match-stance.all.items in
    elim c.match-stance.branch [
      | in-Competing+in_ok-push w ↦
          let pushed : ys ≡ xs ++ w.new.result ∷ [] = search rules in
          kind_more (λ (e : Text × Stance). competitor e.0 e.1) (λ (a : Assigned). a.comp) es i e xs ys w.new.result c.loop-member-test.true c.member-item.is (ap (competitor e.0) (sym c.stance.ensures ∙ w.in-Competing.is) ∙ ap (λ k. competitor k (Competing w.in-Competing.eto)) (sym w.key.ensures) ∙ ap (λ (a : Assigned). Some a.comp) (sym w.new.ensures)) pushed c.loop-member.invariant
      | in_default w ↦
          let same : ys ≡ xs = search rules in
          kind_same (λ (e : Text × Stance). competitor e.0 e.1) (λ (a : Assigned). a.comp) es i e xs ys c.loop-member-test.true c.member-item.is (ap (competitor e.0) (sym c.stance.ensures) ∙ not_competing e.0 c.stance.result w.in_default.not-Competing) same c.loop-member.invariant
    ]
