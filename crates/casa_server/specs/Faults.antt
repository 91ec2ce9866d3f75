-- to believe: the names of a server's and a timer's faults, as they are printed
use Rattle.std.specs.Prelude.{ℕ, List, codes}
use Rattle.casa_server.specs.declared.fault.ServeFault.{ServeFault}
use Rattle.casa_server.specs.declared.fault.ServeFault.TheVariants as serve
use Rattle.casa_server.specs.declared.fault.TimerFault.{TimerFault}
use Rattle.casa_server.specs.declared.fault.TimerFault.TheVariants as timer

abbrev pub serve_fault_name : ServeFault → List ℕ
serve_fault_name serve.AcceptFailed = codes "AcceptFailed"
serve_fault_name serve.SpawnFailed = codes "SpawnFailed"
serve_fault_name serve.NoMemory = codes "NoMemory"

abbrev pub timer_fault_name : TimerFault → List ℕ
timer_fault_name timer.NoDesk = codes "NoDesk"
timer_fault_name timer.NoMemory = codes "NoMemory"
