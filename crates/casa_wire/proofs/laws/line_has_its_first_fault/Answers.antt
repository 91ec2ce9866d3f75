use Rattle.casa_wire.proofs.FirstFaults.{fault_is_first, call_is_said}
use Rattle.casa_wire.proofs.laws.line_has_its_first_fault.Goals as goal

pub returns-clause-fault : goal.returns-clause-fault
returns-clause-fault c = fault_is_first

pub returns-clause-call : goal.returns-clause-call
returns-clause-call c = call_is_said
