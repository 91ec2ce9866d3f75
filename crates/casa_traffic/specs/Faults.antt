-- to believe: the names of faults, and the exit status at each
use Rattle.std.specs.Prelude.{ℕ, codes}
use Rattle.casa_filing.specs.Text.{Text}
use Rattle.casa_traffic.specs.declared.fault.TrafficFault.{TrafficFault}
use Rattle.casa_traffic.specs.declared.fault.TrafficFault.TheVariants.{Column, ReadFailed, RowsLeftOut, WriteFailed, NoMemory}
use Rattle.casa_traffic.specs.declared.titles.TitleFault.{TitleFault}
use Rattle.casa_traffic.specs.declared.titles.TitleFault.TheVariants.{NoColumn, TwoColumns}

abbrev pub title_fault_name : TitleFault → Text
title_fault_name (NoColumn _) = codes "NoColumn"
title_fault_name (TwoColumns _) = codes "TwoColumns"

abbrev pub traffic_fault_name : TrafficFault → Text
traffic_fault_name (Column c) = title_fault_name c.fault
traffic_fault_name (ReadFailed _) = codes "ReadFailed"
traffic_fault_name RowsLeftOut = codes "RowsLeftOut"
traffic_fault_name WriteFailed = codes "WriteFailed"
traffic_fault_name NoMemory = codes "NoMemory"

-- 2 where what was given can't be meant, as with words, and else 1
abbrev pub traffic_status : TrafficFault → ℕ
traffic_status (Column _) = 2
traffic_status _ = 1
