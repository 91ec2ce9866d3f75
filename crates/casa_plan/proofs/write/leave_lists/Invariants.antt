use Rattle.std.proofs.Common.{◌≡◌, drop}
use Rattle.casa_plan_spec.specs.Write.{with_stands, stances_gone}
use Rattle.casa_plan.proofs.write.leave_lists.Given as goal

abbrev pub invariant-loop-id : goal.invariant-loop-id
invariant-loop-id l =
    record l.draft { stands = with_stands l.key l.draft.stands (stances_gone (drop l.id-index l.id-items) l.has) }
    ≡ record l.initial.draft { stands = with_stands l.key l.initial.draft.stands (stances_gone l.had l.has) }
