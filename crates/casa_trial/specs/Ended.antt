-- inner contracts: how a session ended
use Rattle.std.specs.Prelude.{ℕ, Bool, true, false, Result, Ok, Err}
use Rattle.casa_session.specs.declared.fault.SessionFault.{SessionFault}
use Rattle.casa_session.specs.declared.fault.SessionFault.TheVariants.{LineTooLong, ReadFailed, WriteFailed, ForeignPass, NoMemory}

-- it came to the end of its lines, or to one that is too long
abbrev pub came_to_end : Result ℕ SessionFault → Bool
came_to_end (Ok n) = true
came_to_end (Err LineTooLong) = true
came_to_end (Err ReadFailed) = false
came_to_end (Err (WriteFailed n)) = false
came_to_end (Err ForeignPass) = false
came_to_end (Err NoMemory) = false
