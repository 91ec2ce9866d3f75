use Rattle.std.proofs.Common.{rules, ap}
use Rattle.casa_wire.proofs.Values.{some_value, no_value}
use Rattle.casa_script.specs.declared.fault.LineFault.TheVariants.{NoPosition}
use Rattle.casa_script.specs.Said.{or_fault}
use Rattle.casa_script.proofs.reading.value_of.Goals as goal

pub returns-in-Ok : goal.returns-in-Ok
returns-in-Ok c = ap (or_fault NoPosition) (some_value c.args.line.now _ c.in-Ok.ensures.ok.0 c.in-Ok.ensures.ok.1)

pub returns-else-is_memory : goal.returns-else-is_memory
returns-else-is_memory c = ap (or_fault NoPosition) (no_value c.args.line.now (c.in-Err.ensures.err (search rules)))
