use Rattle.std.proofs.Common.{◌≡◌, ◌∙◌, ◌∷◌, ◌++◌, [], Some, ap, sym, subst, rules}
use Rattle.std.specs.List.{All}
use Rattle.std.proofs.lemmas.List.Elements.{All-push}
use Rattle.casa_flight.specs.declared.row.Stance.{Stance}
use Rattle.casa_flight.specs.declared.row.Stance.TheVariants.{Issued}
use Rattle.casa_filing.specs.Text.{Text}
use Rattle.casa_slots.specs.Seat.{HoldsTime, issued_in}
use Rattle.casa_list.specs.Standings.{issued_flight}
use Rattle.casa_list.proofs.AtOnce.{kind_more, kind_same, not_issued}
use Rattle.casa_list.proofs.build.issued_by_key.Goals as goal
use Rattle.casa_list.proofs.build.issued_by_key.Goals.{in-Issued+in_ok-push, in_default}

pub loop-member-preserved : goal.loop-member-preserved
loop-member-preserved c =
    let es = c.as_slice-member-items.result.now in
    let i = c.loop-member.member-index in
    let e = c.member-item.result in
    let xs = c.loop-member.all.items in
    let ys = c.match-stance.all.items in
    elim c.match-stance.branch [
      | in-Issued+in_ok-push w ↦
          let pushed : ys ≡ xs ++ w.held.result ∷ [] = search rules in (
            kind_more (λ (e : Text × Stance). issued_flight e.0 e.1) issued_in es i e xs ys w.held.result c.loop-member-test.true c.member-item.is (ap (issued_flight e.0) (sym c.stance.ensures ∙ w.in-Issued.is) ∙ ap (λ k. issued_flight k (Issued w.in-Issued.eto w.in-Issued.cto)) (sym w.key.ensures) ∙ ap Some (sym w.held.ensures.issued)) pushed c.loop-member.invariant.0,
            subst (All HoldsTime) (sym pushed) (All-push HoldsTime xs w.held.result c.loop-member.invariant.1 w.held.ensures.time),
          )
      | in_default w ↦
          let same : ys ≡ xs = search rules in (
            kind_same (λ (e : Text × Stance). issued_flight e.0 e.1) issued_in es i e xs ys c.loop-member-test.true c.member-item.is (ap (issued_flight e.0) (sym c.stance.ensures) ∙ not_issued e.0 c.stance.result w.in_default.not-Issued) same c.loop-member.invariant.0,
            subst (All HoldsTime) (sym same) c.loop-member.invariant.1,
          )
    ]
