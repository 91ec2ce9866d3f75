use Rattle.std.proofs.Common.{◌≡◌, ◌∙◌, Bool, true, ap, sym, subst, IfOk, Option, Some}
use Rattle.casa_flight.specs.declared.reply.Reply.{Reply}
use Rattle.casa_flight.specs.declared.row.Row.{Row}
use Rattle.casa_flight.specs.Entry.{Offer}
use Rattle.casa_plan_spec.specs.Sight.{Sight, Written}
use Rattle.casa_plan_spec.specs.OneFlight.{entry_offer}
use Rattle.casa_plan_spec.specs.FlightCalls.{is_taken, take_offer, take_offer_if, revise_by, revise_at}
use Rattle.casa_plan.proofs.one_flight.revise.Goals as goal

pub returns-then-is_taken : goal.returns-then-is_taken
returns-then-is_taken g c =
    let v : Sight = c.args.view.now in
    let key = c.args.key in
    let row : Row = c.in-Some.row.now in
    let offer : Option Offer = c.entry_offer-offer.result in
    let taken : is_taken v key row offer ≡ true = sym c.is_taken.ensures ∙ c.if-is_taken.true in
    subst (λ (q : Reply × Written). IfOk c.take_offer.result (λ p. p ≡ q))
    (ap (λ (free : Row). take_offer v key (Some row) free offer) c.in_ok-free.ensures
    ∙ ap (λ (b : Bool). take_offer_if b v key row offer) (sym taken)
    ∙ ap (revise_by v key row) (c.entry_offer-offer.ensures ∙ ap (entry_offer v key) c.in_ok-free.ensures)
    ∙ ap (revise_at v key) c.in-Some.ensures) c.take_offer.ensures
