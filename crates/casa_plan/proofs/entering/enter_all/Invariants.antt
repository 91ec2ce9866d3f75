use Rattle.std.proofs.Common.{◌≡◌, drop}
use Rattle.casa_plan_spec.specs.Enter.{with_entries}
use Rattle.casa_plan.proofs.entering.enter_all.Given as goal

abbrev pub invariant-loop-comp : goal.invariant-loop-comp
invariant-loop-comp g l =
    with_entries l.clock l.catalogue l.view l.draft (drop l.comp-index l.comps)
    ≡ with_entries l.clock l.catalogue l.view l.initial.draft l.comps
