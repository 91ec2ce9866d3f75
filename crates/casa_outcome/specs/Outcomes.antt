-- to believe: what the program ends with at a fault
use Rattle.std.specs.Prelude.{ℕ, List, [], codes}
use Rattle.clap.specs.Words.{kind_of}
use Rattle.clap.specs.declared.error.kind.ErrorKind.{ErrorKind}
use Rattle.clap.specs.declared.error.kind.ErrorKind.TheVariants.{DisplayHelp, DisplayVersion}
use Rattle.casa_cli.specs.declared.tasks.TaskFault.TheVariants.{Words, BadReg, BadKey, BadLocation, BadDay}
use Rattle.casa_session.specs.Faults.{session_fault_name}
use Rattle.casa_app.specs.Faults.{print_fault_name}
use Rattle.casa_service.specs.Faults.{service_fault_name}
use Rattle.casa_traffic.specs.Faults.{traffic_fault_name, traffic_status}
use Rattle.casa_outcome.specs.declared.fault.ProgramFault.{ProgramFault}
use Rattle.casa_outcome.specs.declared.fault.ProgramFault.TheVariants.{Task, Session, Print, ReadFailed, Traffic, Service, NoMemory}

-- who asks for help or the version made no mistake
abbrev pub words_status : ErrorKind → ℕ
words_status DisplayHelp = 0
words_status DisplayVersion = 0
words_status other = 2

-- the exit status and the name that is printed; where clap refuses the words it prints its own text
abbrev pub outcome_of : ProgramFault → ℕ × List ℕ
outcome_of (Task (Words error)) = (words_status (kind_of error), [])
outcome_of (Task BadReg) = (2, codes "BadReg")
outcome_of (Task BadKey) = (2, codes "BadKey")
outcome_of (Task BadLocation) = (2, codes "BadLocation")
outcome_of (Task BadDay) = (2, codes "BadDay")
outcome_of (Session fault) = (1, session_fault_name fault)
outcome_of (Print fault) = (1, print_fault_name fault)
outcome_of (ReadFailed fault) = (1, codes "ReadFailed")
outcome_of (Traffic fault) = (traffic_status fault, traffic_fault_name fault)
outcome_of (Service fault) = (1, service_fault_name fault)
outcome_of NoMemory = (1, codes "NoMemory")
