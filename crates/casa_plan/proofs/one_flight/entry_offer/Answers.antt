use Rattle.std.proofs.Common.{◌≡◌, ◌∙◌, ℕ, false, cond, ◌||◌, sym, ap, None}
use Rattle.casa_flight.specs.declared.row.Row.{Row}
use Rattle.casa_filing.specs.Subject.{is_gone}
use Rattle.casa_flight.specs.State.{is_exempt}
use Rattle.casa_flight.specs.Entry.{most_penalising}
use Rattle.casa_plan_spec.specs.Sight.{Sight, clock_in, list_with}
use Rattle.casa_plan_spec.specs.OneFlight.{offers_of, best_offer}
use Rattle.casa_plan.proofs.one_flight.entry_offer.Goals as goal

pub returns : goal.returns
returns g c =
    let v : Sight = c.args.view.now in
    let row : Row = c.args.row.now in
    let plain : is_exempt row ≡ false = sym c.is_exempt.ensures ∙ c.if-is_exempt.false in
    let here : is_gone (clock_in v) row.plan ≡ false =
    sym (ap (λ (clock : ℕ). is_gone clock row.plan) c.clock.ensures) ∙ sym c.is_gone.ensures ∙ c.if-is_gone.false in
    c.best_offer.ensures
    ∙ (λ i. most_penalising (offers_of (list_with v (c.new.ensures i)) c.args.key (c.requires i)))
    ∙ (λ i. cond (sym plain i || sym here i) None (best_offer v c.args.key row.plan))
