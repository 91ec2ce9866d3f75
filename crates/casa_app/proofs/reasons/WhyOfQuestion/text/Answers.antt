use Rattle.std.proofs.Common.{◌≡◌, Option, Ok, ap, sym, ◌∙◌}
use Rattle.std.specs.Prelude.{ok_or, option_map}
use Rattle.casa_flight.specs.declared.row.Row.{Row}
use Rattle.casa_inquiry.specs.Why.{why}
use Rattle.casa_session.specs.Played.{state_after_calls}
use Rattle.casa_app.specs.declared.fault.PrintFault.TheVariants.{NoFlight}
use Rattle.casa_app.specs.Whys.{exchanges_after, why_as}
use Rattle.casa_app.proofs.reasons.WhyOfQuestion.text.Goals as goal

pub returns-clause-some : goal.returns-clause-some
returns-clause-some c =
    let calls = c.args.lone.now in
    let asked = c.args.self.now in
    let possible : c.as_slice.result.now ≡ exchanges_after calls asked.key = c.as_slice.ensures ∙ c.in_ok-possible.ensures in
    ap (λ (row : Option Row). ok_or (option_map (why_as asked.format asked.day (exchanges_after calls asked.key))
    (option_map (why (state_after_calls calls) asked.key) row)) NoFlight) (sym c.in-Some.ensures)
    ∙ ap Ok ((λ i. why_as asked.format asked.day (sym possible i) (sym c.in_ok-reasons.ensures i)) ∙ sym c.in_ok-text.ensures)
