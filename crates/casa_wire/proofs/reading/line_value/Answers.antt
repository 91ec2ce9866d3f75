use Rattle.std.proofs.Common.{rules, ap}
use Rattle.casa_wire.specs.Commands.{or_fault}
use Rattle.casa_wire.specs.declared.fault.WireFault.TheVariants.{NotJson}
use Rattle.casa_wire.proofs.Values.{some_value, no_value}
use Rattle.casa_wire.proofs.reading.line_value.Goals as goal

pub returns-in-Ok : goal.returns-in-Ok
returns-in-Ok c = ap (or_fault NotJson) (some_value c.args.line.now _ c.in-Ok.ensures.ok.0 c.in-Ok.ensures.ok.1)

pub returns-else-is_memory : goal.returns-else-is_memory
returns-else-is_memory c = ap (or_fault NotJson) (no_value c.args.line.now (c.in-Err.ensures.err (search rules)))
