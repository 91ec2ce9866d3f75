use Rattle.std.proofs.Common.{◌≡◌, ◌++◌, take}
use Rattle.casa_report.specs.Values.{more_values}
use Rattle.casa_report.proofs.csv.push_more.Given as goal

abbrev pub invariant-loop-value : goal.invariant-loop-value
invariant-loop-value l = l.out.items ≡ l.fn.out.items ++ more_values l.day (take l.value-index l.values)
