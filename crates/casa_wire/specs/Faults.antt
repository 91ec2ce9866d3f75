-- to believe: the names of the faults of a line, as they are written
use Rattle.std.specs.Prelude.{ℕ, List, codes}
use Rattle.casa_wire.specs.declared.fault.WireFault.{WireFault}
use Rattle.casa_wire.specs.declared.fault.WireFault.TheVariants.{NotJson, NoCommand, BadField, NoMemory}

-- why a line is no call
abbrev pub wire_fault_name : WireFault → List ℕ
wire_fault_name NotJson = codes "NotJson"
wire_fault_name NoCommand = codes "NoCommand"
wire_fault_name (BadField field) = codes "BadField"
wire_fault_name NoMemory = codes "NoMemory"
