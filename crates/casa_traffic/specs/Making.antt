-- to believe: what the rows of files of traffic make
use Rattle.std.specs.Prelude.{◌≡◌, ℕ, ◌==◌, Bool, false, ◌&&◌, List, [], ◌∷◌, ◌++◌, length, fold, Option, None, Some, if◌then◌else◌}
use Rattle.std.specs.List.{list_any}
use Rattle.jiff_core.specs.declared.civil.date.Date.{Date}
use Rattle.casa_filing.specs.FlightPlan.{FlightPlan}
use Rattle.casa_filing.specs.Text.{Text, is_name, same_text}
use Rattle.casa_filing.specs.declared.plan.Crossing.{Crossing}
use Rattle.casa_import.specs.Crossings.{IsRead, is_named}
use Rattle.casa_import.specs.Filings.{IsByOffBlockTime, Outcome, nothing, outcome}
use Rattle.casa_import.specs.Keyed.{flown}
use Rattle.casa_import.specs.Regulations.{judged_rows, openings, rows_left_out}
use Rattle.casa_import.specs.declared.columns.CrossingColumns.{CrossingColumns}
use Rattle.casa_import.specs.declared.columns.FlightColumns.{FlightColumns}
use Rattle.casa_import.specs.declared.columns.ImportOptions.{ImportOptions}
use Rattle.casa_import.specs.declared.columns.RegulationColumns.{RegulationColumns}
use Rattle.casa_import.specs.declared.crossings.CrossingsRead.{CrossingsRead}
use Rattle.casa_import.specs.declared.reason.LeftOut.{LeftOut}
use Rattle.casa_import.specs.declared.regulations.Opening.{Opening}
use Rattle.casa_rows.specs.Fields.{text_in}
use Rattle.casa_rows.specs.declared.row.Row.{Row}
use Rattle.casa_traffic.specs.declared.making.Asked.{Asked}
use Rattle.casa_traffic.specs.declared.making.Made.{Made}
use Rattle.casa_traffic.specs.declared.making.Order.{Order}
use Rattle.casa_traffic.specs.declared.making.Order.TheVariants.{File, Eobt}
use Rattle.casa_traffic.specs.declared.sheets.Columns.{Columns}
use Rattle.casa_traffic.specs.declared.sheets.Sheet.{Sheet}
use Rattle.casa_traffic.specs.declared.sheets.Sheets.{Sheets}

-- the rows of a file with its columns; a file that is not given has none
abbrev pub with_rows : {C X : Type 0} → X → (C → List Row → X) → Option Sheet → Option C → X
with_rows without make None columns = without
with_rows without make (Some sheet) None = without
with_rows without make (Some sheet) (Some columns) = make columns sheet.table.rows.items

-- the regulations that rows open, and the rows that are left out
abbrev pub opened : Date → Option Sheet → Option RegulationColumns → List Opening
opened day sheet columns = with_rows [] (λ columns rows. openings (judged_rows day columns rows)) sheet columns

abbrev pub not_opened : Date → Option Sheet → Option RegulationColumns → List LeftOut
not_opened day sheet columns =
    with_rows [] (λ columns rows. let all = judged_rows day columns rows in rows_left_out all (openings all)) sheet columns

-- the location of a row of regulations, be the row left out or not: where it has as many fields as there are titles, and one
-- of them is the name of a location
abbrev pub location_of : RegulationColumns → Row → Option Text
location_of columns row =
    if (length row.fields.items == columns.width) && is_name (text_in columns.loc row) then Some (text_in columns.loc row) else None

-- these locations, and that one, if it is another
abbrev pub and_new : List Text → Text → List Text
and_new locations loc = if list_any (λ known. same_text known loc) locations then locations else locations ++ loc ∷ []

abbrev pub and_location : List Text → Option Text → List Text
and_location locations None = locations
and_location locations (Some loc) = and_new locations loc

-- the locations that stay in a flight with too many: those that are asked for, and those of rows of regulations
abbrev pub staying : List Text → RegulationColumns → List Row → List Text
staying asked columns rows = fold (λ (locations : List Text) (row : Row). and_location locations (location_of columns row)) asked rows

pub record AreOptions (asked : Asked) (sheets : Sheets) (columns : Columns) (options : ImportOptions) : Type 0 where
  pub day : options.day ≡ asked.day
  pub taxi : options.taxi ≡ asked.taxi
  pub locations : options.locations.items ≡ with_rows asked.locations.now (staying asked.locations.now) sheets.regs columns.regs

-- whether a row of flights names a key
abbrev pub names : Option Sheet → Option FlightColumns → Text → Bool
names sheet columns key = with_rows false (λ (c : FlightColumns) rows. is_named c.key rows key) sheet columns

-- what is read of crossings, of those flights that are named; nothing where there is no file of them
pub record IsNothing (read : CrossingsRead) : Type 0 where
  pub crossings : (key : Text) → flown read.crossings key ≡ []
  pub left_out : read.left_out.items ≡ []
  pub of_no_flight : read.of_no_flight ≡ 0
  pub entered_again : read.entered_again ≡ 0

abbrev pub AreRead : Date → (Text → Bool) → Option Sheet → Option CrossingColumns → CrossingsRead → Type 0
AreRead day named None columns read = IsNothing read
AreRead day named (Some sheet) None read = IsNothing read
AreRead day named (Some sheet) (Some columns) read = IsRead day columns named sheet.table.rows.items read

-- the filings that rows of flights make with these crossings, and the rows that are left out
abbrev pub filed : ImportOptions → (Text → List Crossing) → Option Sheet → Option FlightColumns → Outcome
filed options crossings sheet columns = with_rows nothing (λ columns rows. outcome options columns crossings rows) sheet columns

-- filings in the order that is asked for
abbrev pub IsInOrder : Order → List FlightPlan → List FlightPlan → Type 0
IsInOrder File before after = after ≡ before
IsInOrder Eobt before after = IsByOffBlockTime before after

pub record IsMade (asked : Asked) (sheets : Sheets) (columns : Columns) (made : Made) : Type 0 where
  pub options : AreOptions asked sheets columns made.options
  pub openings : made.regulations.openings.items ≡ opened asked.day sheets.regs columns.regs
  pub not_opened : made.regulations.left_out.items ≡ not_opened asked.day sheets.regs columns.regs
  pub crossings : AreRead asked.day (names sheets.flights columns.flights) sheets.crossings columns.crossings made.crossings
  pub plans : IsInOrder asked.order (filed made.options (flown made.crossings.crossings) sheets.flights columns.flights).plans made.filings.plans.items
  pub not_filed : made.filings.left_out.items ≡ (filed made.options (flown made.crossings.crossings) sheets.flights columns.flights).left_out
