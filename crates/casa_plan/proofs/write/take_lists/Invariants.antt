use Rattle.std.proofs.Common.{◌≡◌, drop, Some}
use Rattle.casa_plan_spec.specs.Write.{with_stands, stances_now}
use Rattle.casa_plan.proofs.write.take_lists.Given as goal

abbrev pub invariant-loop-id : goal.invariant-loop-id
invariant-loop-id l =
    record l.draft { stands = with_stands l.key l.draft.stands (stances_now (Some l.row) (drop l.id-index l.over)) }
    ≡ record l.initial.draft { stands = with_stands l.key l.initial.draft.stands (stances_now (Some l.row) l.has) }
