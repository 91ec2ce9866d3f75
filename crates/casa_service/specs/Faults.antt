-- to believe: the names of the faults of a service
use Rattle.std.specs.Prelude.{ℕ, List, codes, ⊤}
use Rattle.casa_session.specs.Faults.{session_fault_name}
use Rattle.casa_server.specs.Faults.{serve_fault_name}
use Rattle.casa_service.specs.declared.fault.ServiceFault.{ServiceFault}
use Rattle.casa_service.specs.declared.fault.ServiceFault.TheVariants.{BindFailed, Serve, Session, Journal, NoMemory}
use Rattle.casa_service.specs.declared.fault.Trouble.{Trouble}
use Rattle.casa_service.specs.declared.fault.Trouble.TheVariants.{NotOpened, NotRead, NotAlone, BadLine, ReplayDiffers, MoreThanTorn, NotSetAside, NotWritten}

-- of what can be wrong with a journal
abbrev pub trouble_name : Trouble → List ℕ
trouble_name (NotOpened fault) = codes "JournalNotOpened"
trouble_name (NotRead error) = codes "JournalNotOpened"
trouble_name NotAlone = codes "JournalNotOpened"
trouble_name (BadLine line) = codes "JournalBad"
trouble_name (ReplayDiffers line) = codes "ReplayDiffers"
trouble_name (MoreThanTorn line bytes) = codes "JournalBad"
trouble_name (NotSetAside error) = codes "JournalNotOpened"
trouble_name (NotWritten error) = codes "JournalNotWritten"

-- of a service
abbrev pub service_fault_name : ServiceFault → List ℕ
service_fault_name (BindFailed fault) = codes "BindFailed"
service_fault_name (Serve fault) = serve_fault_name fault
service_fault_name (Session fault) = session_fault_name fault
service_fault_name (Journal fault) = trouble_name fault.trouble
service_fault_name NoMemory = codes "NoMemory"

-- inner: what can be wrong as a journal is opened
abbrev pub IsOfOpening : Trouble → Type 0
IsOfOpening (NotWritten error) = ⊥
IsOfOpening other = ⊤

-- inner: a journal could not be opened, or there is no memory
abbrev pub IsOfJournal : ServiceFault → Type 0
IsOfJournal (Journal fault) = IsOfOpening fault.trouble
IsOfJournal NoMemory = ⊤
IsOfJournal other = ⊥
