-- to believe: the names of what keeps a text from being printed
use Rattle.std.specs.Prelude.{ℕ, List, codes}
use Rattle.casa_session.specs.Faults.{session_fault_name}
use Rattle.casa_app.specs.declared.fault.PrintFault.{PrintFault}
use Rattle.casa_app.specs.declared.fault.PrintFault.TheVariants.{Session, WriteFailed, NoRegulation, NoFlight, FaultyLines, NoMemory}

abbrev pub print_fault_name : PrintFault → List ℕ
print_fault_name (Session fault) = session_fault_name fault
print_fault_name WriteFailed = codes "WriteFailed"
print_fault_name NoRegulation = codes "NoRegulation"
print_fault_name NoFlight = codes "NoFlight"
print_fault_name FaultyLines = codes "FaultyLines"
print_fault_name NoMemory = codes "NoMemory"
