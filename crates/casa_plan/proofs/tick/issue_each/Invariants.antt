use Rattle.std.proofs.Common.{◌≡◌, drop}
use Rattle.casa_plan_spec.specs.Issue.{with_issues}
use Rattle.casa_plan.proofs.tick.issue_each.Given as goal

abbrev pub invariant-loop-key : goal.invariant-loop-key
invariant-loop-key g l =
    with_issues l.view l.draft (drop l.key-index l.keys) ≡ with_issues l.view l.initial.draft l.keys
