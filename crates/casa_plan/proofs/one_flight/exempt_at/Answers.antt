use Rattle.std.proofs.Common.{◌≡◌, IfOk, Some, subst}
use Rattle.casa_flight.specs.declared.row.Row.{Row}
use Rattle.casa_plan_spec.specs.FlightCalls.{rewrite_flight}
use Rattle.casa_plan.proofs.one_flight.exempt_at.Goals as goal

pub returns : goal.returns
returns g c =
    subst (λ (row : Row). IfOk c.rewrite_flight.result (λ p. p ≡ rewrite_flight c.args.view.now c.args.key (Some c.args.row.now) row 0))
    c.in_ok-exempted.ensures c.rewrite_flight.ensures
