-- to believe: what sessions take that begin with the calls of files of traffic
use Rattle.std.specs.Prelude.{◌≡◌, []}
use Rattle.casa_flight.specs.declared.state.State.{State}
use Rattle.casa_import.specs.Taken.{AreTaken}
use Rattle.casa_traffic.specs.declared.making.Asked.{Asked}
use Rattle.casa_traffic.specs.declared.making.Made.{Made}
use Rattle.casa_traffic.specs.declared.sheets.Columns.{Columns}
use Rattle.casa_traffic.specs.declared.sheets.Sheets.{Sheets}
use Rattle.casa_traffic.specs.Calls.{calls_of}
use Rattle.casa_traffic.specs.Making.{IsMade}

-- where nothing has happened: the clock stands at midnight, no regulation is open and no flight is filed
pub record IsBeginning (m : State) : Type 0 where
  pub midnight : m.clock ≡ 0
  pub regs : m.regs ≡ []
  pub rows : m.rows ≡ []

-- the calls that files of traffic make are taken one after another, none of them refused
abbrev pub CallsAreTaken : Type 0
CallsAreTaken =
    (m : State) → IsBeginning m → (asked : Asked) (sheets : Sheets) (columns : Columns) (made : Made) → IsMade asked sheets columns made → AreTaken m (calls_of made)
