-- to believe: the tables of the files of traffic, and their columns
use Rattle.std.specs.Prelude.{◌≡◌, Option, None, Some, option_map, Result, Ok, Err}
use Rattle.casa_import.specs.declared.columns.CrossingColumns.{CrossingColumns}
use Rattle.casa_import.specs.declared.columns.RegulationColumns.{RegulationColumns}
use Rattle.casa_rows.specs.Rows.{IsTable}
use Rattle.casa_traffic.specs.declared.sheets.Columns.{Columns}
use Rattle.casa_traffic.specs.declared.sheets.ImportFault.{ImportFault}
use Rattle.casa_traffic.specs.declared.sheets.ImportFault.TheVariants.{Column, NoMemory}
use Rattle.casa_traffic.specs.declared.sheets.Kind.{Kind}
use Rattle.casa_traffic.specs.declared.sheets.Kind.TheVariants.{Regs, Crossings, Flights}
use Rattle.casa_traffic.specs.declared.sheets.Sheet.{Sheet}
use Rattle.casa_traffic.specs.declared.sheets.Sheets.{Sheets}
use Rattle.casa_traffic.specs.declared.sheets.Source.{Source}
use Rattle.casa_traffic.specs.declared.sheets.Sources.{Sources}
use Rattle.casa_traffic.specs.declared.titles.TitleFault.{TitleFault}
use Rattle.casa_traffic.specs.Bind.{◌>>=◌, BothOrNeither}
use Rattle.casa_traffic.specs.Titles.{Header, Places, crossing_columns, flight_columns, places_of, regulation_columns}

-- the table of a file, under its name
pub record IsSheet (source : Source) (sheet : Sheet) : Type 0 where
  pub name : sheet.name.now ≡ source.name.now
  pub table : IsTable source.text.now sheet.table

pub record AreSheets (sources : Sources) (sheets : Sheets) : Type 0 where
  pub regs : BothOrNeither IsSheet sources.regs sheets.regs
  pub crossings : BothOrNeither IsSheet sources.crossings sheets.crossings
  pub flights : BothOrNeither IsSheet sources.flights sheets.flights

-- the columns of a file, or the fault with the file that has it
abbrev pub in_file : {C : Type 0} → Kind → Result C TitleFault → Result (Option C) ImportFault
in_file kind (Ok columns) = Ok (Some columns)
in_file kind (Err fault) = Err (Column kind fault)

abbrev pub columns_in : {C : Type 0} → Kind → (Header → Result C TitleFault) → Option Sheet → Result (Option C) ImportFault
columns_in kind columns None = Ok None
columns_in kind columns (Some sheet) = in_file kind (columns sheet.table.header.items)

-- the columns of the files that are given
pub record AllPlaces : Type 0 where
  pub regs : Option RegulationColumns
  pub crossings : Option CrossingColumns
  pub flights : Option Places

abbrev pub all_places : Columns → AllPlaces
all_places c = record { regs = c.regs; crossings = c.crossings; flights = option_map places_of c.flights }

-- the files are looked at in the order regulations, crossings, flights; the first fault stands
abbrev pub columns_of : Sheets → Result AllPlaces ImportFault
columns_of sheets = do
  regs ← columns_in Regs regulation_columns sheets.regs
  crossings ← columns_in Crossings crossing_columns sheets.crossings
  flights ← columns_in Flights flight_columns sheets.flights
  Ok (record { regs = regs; crossings = crossings; flights = flights })

-- inner: what a function returned, as `view` sees it, is the meaning; nothing is claimed where memory is refused
abbrev pub ColumnsAs : {X Y : Type 0} → (X → Y) → Result X ImportFault → Result Y ImportFault → Type 0
ColumnsAs view (Ok x) meaning = meaning ≡ Ok (view x)
ColumnsAs view (Err (Column kind fault)) meaning = meaning ≡ Err (Column kind fault)
ColumnsAs view (Err NoMemory) meaning = Unit {0}
