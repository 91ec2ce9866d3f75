use Rattle.std.proofs.Common.{◌≡◌, ◌∙◌, false, nat_lt, sym, ap, subst, IfOk, Some}
use Rattle.casa_flight.specs.declared.reply.Reply.{Reply}
use Rattle.casa_flight.specs.declared.row.Row.{Row}
use Rattle.casa_plan_spec.specs.Sight.{Sight, Written, clock_in, row_in}
use Rattle.casa_plan_spec.specs.FlightCalls.{enter_flight, amend_if}
use Rattle.casa_plan.proofs.one_flight.amend.Goals as goal

pub returns : goal.returns
returns g c =
    let v : Sight = c.args.view.now in
    let plan = c.args.plan.now in
    let row : Row = c.in-Some.row.now in
    let late : nat_lt plan.eobt (clock_in v) ≡ false = sym c.is_late.ensures ∙ c.if-is_late.false in
    let found : Some row ≡ row_in v plan.key = c.in-Some.ensures ∙ ap (row_in v) c.key-key.ensures in
    subst (λ (q : Reply × Written). IfOk c.enter_flight.result (λ p. p ≡ q))
    ((λ i. enter_flight v (c.key-key.ensures i) (Some row) (c.in_ok-amended.ensures i))
    ∙ (λ i. amend_if v plan (found i) (sym late i))) c.enter_flight.ensures
