-- to believe: the names of a session's faults, as they are written
use Rattle.std.specs.Prelude.{ℕ, List, codes}
use Rattle.casa_session.specs.declared.fault.SessionFault.{SessionFault}
use Rattle.casa_session.specs.declared.fault.SessionFault.TheVariants.{LineTooLong, ReadFailed, WriteFailed, ForeignPass, NoMemory}

-- why a session ended before its input did
abbrev pub session_fault_name : SessionFault → List ℕ
session_fault_name LineTooLong = codes "LineTooLong"
session_fault_name ReadFailed = codes "ReadFailed"
session_fault_name (WriteFailed n) = codes "WriteFailed"
session_fault_name ForeignPass = codes "ForeignPass"
session_fault_name NoMemory = codes "NoMemory"
