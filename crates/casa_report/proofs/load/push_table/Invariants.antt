use Rattle.std.proofs.Common.{◌≡◌, ◌++◌, drop}
use Rattle.std.specs.List.{flat_map}
use Rattle.casa_report.specs.LoadTable.{each_of, load_table, step_lines, sums_line}
use Rattle.casa_report.proofs.load.push_table.Given as goal

abbrev pub invariant-steps : goal.invariant-steps
invariant-steps l =
    let steps = l.load.steps.items in
    l.text.items ++ (flat_map (step_lines (each_of steps)) (drop l.step-index steps) ++ sums_line l.load.flights l.load.slots)
    ≡ l.fn.text.items ++ load_table steps l.load.flights l.load.slots
