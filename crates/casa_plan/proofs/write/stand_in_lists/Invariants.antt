use Rattle.std.proofs.Common.{◌≡◌, drop, Some}
use Rattle.casa_plan_spec.specs.Write.{with_stances, stances_now}
use Rattle.casa_plan.proofs.write.stand_in_lists.Given as goal

abbrev pub invariant-loop-id : goal.invariant-loop-id
invariant-loop-id g l =
    record l.draft { lists = with_stances l.view l.key l.draft.lists (stances_now (Some l.row) (drop l.id-index l.over)) }
    ≡ record l.initial.draft { lists = with_stances l.view l.key l.initial.draft.lists (stances_now (Some l.row) l.has) }
