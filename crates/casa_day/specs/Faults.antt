-- inner contracts: what a fault of a tape is in a day
use Rattle.casa_tape.specs.declared.tape.TapeError.{TapeError}
use Rattle.casa_tape.specs.declared.tape.TapeError.TheVariants as tape
use Rattle.casa_day.specs.declared.event.DayFault.{DayFault}
use Rattle.casa_day.specs.declared.event.DayFault.TheVariants as day
use Rattle.casa_day.specs.declared.event.OpenFault.{OpenFault}
use Rattle.casa_day.specs.declared.event.OpenFault.TheVariants as opening

-- in a day that goes on
abbrev pub day_fault : TapeError → DayFault
day_fault tape.NoMemory = day.NoMemory
day_fault tape.Failed = day.NotWritten

-- at the opening of a day
abbrev pub open_fault : TapeError → OpenFault
open_fault tape.NoMemory = opening.NoMemory
open_fault tape.Failed = opening.NotRead
