use Rattle.std.proofs.Common.{◌≡◌, ℕ, ◌++◌, map, take, codes}
use Rattle.std.specs.List.{flat_map}
use Rattle.casa_filing.specs.Text.{Text}
use Rattle.casa_live.specs.Metrics.{command_sample, commands, heading}
use Rattle.casa_live.proofs.metrics.push_counter.Given as goal

abbrev pub invariant-loop-number : goal.invariant-loop-number
invariant-loop-number l =
    (value : Text → ℕ) → l.counts ≡ map value commands →
    l.out.items ≡ (l.fn.out.items ++ heading l.name (codes "counter") l.help) ++ flat_map (command_sample l.name value) (take l.number commands)
