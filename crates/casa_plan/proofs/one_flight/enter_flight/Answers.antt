use Rattle.std.proofs.Common.{◌≡◌, ap, subst, IfOk, Option, option_copied}
use Rattle.casa_flight.specs.declared.reply.Reply.{Reply}
use Rattle.casa_flight.specs.Entry.{Offer}
use Rattle.casa_plan_spec.specs.Sight.{Sight, Written}
use Rattle.casa_plan_spec.specs.FlightCalls.{take_offer}
use Rattle.casa_plan.proofs.one_flight.enter_flight.Goals as goal

pub returns : goal.returns
returns g c =
    let v : Sight = c.args.view.now in
    subst (λ (q : Reply × Written). IfOk c.take_offer.result (λ p. p ≡ q))
    (ap (λ (o : Option Offer). take_offer v c.args.key (option_copied c.args.was) c.args.row o) c.entry_offer-offer.ensures) c.take_offer.ensures
