-- to believe: what comes of files of traffic
use Rattle.std.specs.Prelude.{◌≡◌, All, Result, Ok, Err}
use Rattle.casa_traffic.specs.declared.importing.Imported.{Imported}
use Rattle.casa_traffic.specs.declared.making.Asked.{Asked}
use Rattle.casa_traffic.specs.declared.making.Made.{Made}
use Rattle.casa_traffic.specs.declared.sheets.Columns.{Columns}
use Rattle.casa_traffic.specs.declared.sheets.ImportFault.{ImportFault}
use Rattle.casa_traffic.specs.declared.sheets.ImportFault.TheVariants.{Column, NoMemory}
use Rattle.casa_traffic.specs.declared.sheets.Kind.{Kind}
use Rattle.casa_traffic.specs.declared.sheets.Sheets.{Sheets}
use Rattle.casa_traffic.specs.declared.sheets.Sources.{Sources}
use Rattle.casa_traffic.specs.declared.titles.TitleFault.{TitleFault}
use Rattle.casa_traffic.specs.Calls.{calls_of}
use Rattle.casa_traffic.specs.Lines.{IsReadAgain, lines}
use Rattle.casa_traffic.specs.Making.{IsMade}
use Rattle.casa_traffic.specs.Sheets.{AreSheets, all_places, columns_of}
use Rattle.casa_traffic.specs.Told.{is_whole, told}

-- the files have these tables with these columns, of which this is made; the lines are those of the calls, each is read as
-- its call, and what is told is told
pub record IsImported (asked : Asked) (sources : Sources) (imported : Imported) : Type 0 where
  pub sheets : Sheets
  pub columns : Columns
  pub made : Made
  pub are_sheets : AreSheets sources sheets
  pub are_columns : columns_of sheets ≡ Ok (all_places columns)
  pub is_made : IsMade asked sheets columns made
  pub written : imported.lines.items ≡ lines (calls_of made)
  pub read_again : All IsReadAgain (calls_of made)
  pub said : imported.told.items ≡ told sheets made
  pub whole : imported.is_whole ≡ is_whole made

-- the files have tables, and this is the first fault of their columns
pub record IsFirstFault (sources : Sources) (kind : Kind) (fault : TitleFault) : Type 0 where
  pub sheets : Sheets
  pub are_sheets : AreSheets sources sheets
  pub first : columns_of sheets ≡ Err (Column kind fault)

-- nothing is claimed where memory is refused
abbrev pub Imports : Asked → Sources → Result Imported ImportFault → Type 0
Imports asked sources (Ok imported) = IsImported asked sources imported
Imports asked sources (Err (Column kind fault)) = IsFirstFault sources kind fault
Imports asked sources (Err NoMemory) = Unit {0}
