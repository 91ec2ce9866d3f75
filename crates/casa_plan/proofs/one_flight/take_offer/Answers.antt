use Rattle.std.proofs.Common.{◌≡◌, ◌∙◌, ℕ, ap, subst, IfOk, option_copied}
use Rattle.casa_flight.specs.declared.reply.Reply.{Reply}
use Rattle.casa_plan_spec.specs.Sight.{Sight, Written, clock_in}
use Rattle.casa_plan_spec.specs.OneFlight.{with_offer, offered_delay}
use Rattle.casa_plan_spec.specs.FlightCalls.{rewrite_flight}
use Rattle.casa_plan.proofs.one_flight.take_offer.Goals as goal

pub returns : goal.returns
returns g c =
    let v : Sight = c.args.view.now in
    let row_is : c.with_offer-row.result ≡ with_offer (clock_in v) c.args.row c.args.offer.now =
    c.with_offer-row.ensures ∙ ap (λ (clock : ℕ). with_offer clock c.args.row c.args.offer.now) c.clock.ensures in
    let delay_is : c.offered_delay.result ≡ offered_delay c.args.offer.now = c.offered_delay.ensures.value in
    subst (λ (q : Reply × Written). IfOk c.rewrite_flight.result (λ p. p ≡ q))
    (λ i. rewrite_flight v c.args.key (option_copied c.args.was) (row_is i) (delay_is i)) c.rewrite_flight.ensures
