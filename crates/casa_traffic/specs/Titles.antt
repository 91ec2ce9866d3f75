-- to believe: the columns of a table, by their titles
use Rattle.std.specs.Prelude.{ℕ, zero, suc, ◌+◌, Bool, ◌&&◌, true, false, ◌==◌, List, [], ◌∷◌, ◌++◌, length, position, bytes_eq, codes, decimal, Option, None, Some, option_to_list, Result, Ok, Err, Vec, if◌then◌else◌}
use Rattle.std.specs.List.{count_by}
use Rattle.std.specs.Option.{option_map_or}
use Rattle.std.specs.declared.alloc.Global.{Global}
use Rattle.casa_filing.specs.Text.{Text}
use Rattle.casa_import.specs.declared.columns.CrossingColumns.{CrossingColumns}
use Rattle.casa_import.specs.declared.columns.EntryColumns.{EntryColumns}
use Rattle.casa_import.specs.declared.columns.FlightColumns.{FlightColumns}
use Rattle.casa_import.specs.declared.columns.RegulationColumns.{RegulationColumns}
use Rattle.casa_traffic.specs.declared.titles.Title.{Title}
use Rattle.casa_traffic.specs.declared.titles.Title.TheVariants as title
use Rattle.casa_traffic.specs.declared.titles.TitleFault.{TitleFault}
use Rattle.casa_traffic.specs.declared.titles.TitleFault.TheVariants.{NoColumn, TwoColumns}
use Rattle.casa_traffic.specs.Bind.{◌>>=◌}

-- the titles of a table, as the program keeps them
abbrev pub Header : Type 0
Header = List (Vec ℕ Global)

-- a title as it stands in a file: a word, and behind it the number of the pair where it is of one
abbrev pub word : Title → Text
word title.Reg = codes "reg"
word title.Loc = codes "loc"
word title.From = codes "from"
word title.To = codes "to"
word title.Rate = codes "rate"
word title.EctrlId = codes "ECTRL ID"
word title.AuaId = codes "AUA ID"
word title.EntryTime = codes "Entry Time"
word title.Adep = codes "ADEP"
word title.Ades = codes "ADES"
word title.FiledOffBlockTime = codes "FILED OFF BLOCK TIME"
word title.FiledArrivalTime = codes "FILED ARRIVAL TIME"
word title.Key = codes "key"
word title.Eobt = codes "eobt"
word title.Taxi = codes "taxi"
word title.Sts = codes "sts"
word (title.LocOf _) = codes "loc"
word (title.EtoOf _) = codes "eto"

abbrev pub number : Title → Option ℕ
number (title.LocOf n) = Some n
number (title.EtoOf n) = Some n
number _ = None

abbrev pub number_text : Option ℕ → Text
number_text number = option_map_or decimal number []

abbrev pub title_text : Title → Text
title_text title = word title ++ number_text (number title)

abbrev pub is_title : Title → Text → Bool
is_title title text = bytes_eq text (title_text title)

abbrev pub is_titled : Title → Vec ℕ Global → Bool
is_titled title field = is_title title field.items

-- how many columns have a title
abbrev pub times : Header → Title → ℕ
times header title = count_by (is_titled title) header

-- the column of a title: the place of the only one that has it
abbrev pub only : Title → ℕ → Option ℕ → Result ℕ TitleFault
only title times None = Err (NoColumn title)
only title times (Some at) = if times == 1 then Ok at else Err (TwoColumns title)

abbrev pub column : Header → Title → Result ℕ TitleFault
column header title = only title (times header title) (position (is_titled title) header)

-- one that may be missing
abbrev pub optional_column : Header → Title → Result (Option ℕ) TitleFault
optional_column header title = if times header title == 0 then Ok None else (column header title >>= (λ at. Ok (Some at)))

abbrev pub regulation_columns : Header → Result RegulationColumns TitleFault
regulation_columns header = do
  reg ← column header title.Reg
  loc ← column header title.Loc
  from ← column header title.From
  to ← column header title.To
  rate ← column header title.Rate
  Ok (record { width = length header; reg = reg; loc = loc; from = from; to = to; rate = rate })

abbrev pub crossing_columns : Header → Result CrossingColumns TitleFault
crossing_columns header = do
  key ← column header title.EctrlId
  loc ← column header title.AuaId
  eto ← column header title.EntryTime
  Ok (record { width = length header; key = key; loc = loc; eto = eto })

-- the columns of flights
pub record Places : Type 0 where
  pub width : ℕ
  pub key : ℕ
  pub eobt : ℕ
  pub taxi : Option ℕ
  pub sts : Option ℕ
  pub entries : List EntryColumns
  pub departure : Option ℕ

abbrev pub places_of : FlightColumns → Places
places_of c = record
    { width = c.width; key = c.key; eobt = c.eobt; taxi = c.taxi; sts = c.sts; entries = c.entries.items; departure = c.departure }

-- a pair of a location and a time, of which both columns are there or neither is
abbrev pub pair : Header → ℕ → Result (Option EntryColumns) TitleFault
pair header n =
    if (times header (title.LocOf n) == 0) && (times header (title.EtoOf n) == 0) then Ok None
    else (do
      loc ← column header (title.LocOf n)
      eto ← column header (title.EtoOf n)
      Ok (Some (record { loc = loc; eto = eto; may_be_empty = true })))

-- so many pairs, of which this is the first
unfoldable pub pairs : Header → ℕ → ℕ → Result (List EntryColumns) TitleFault
pairs header first zero = Ok []
pairs header first (suc count) = do
  entry ← pair header first
  more ← pairs header (first + 1) count
  Ok (option_to_list entry ++ more)

-- a flight of the archive form lands at its last aerodrome and takes off from its first
abbrev pub archive : Header → Result Places TitleFault
archive header = do
  key ← column header title.EctrlId
  adep ← column header title.Adep
  ades ← column header title.Ades
  eobt ← column header title.FiledOffBlockTime
  arrival ← column header title.FiledArrivalTime
  Ok (record {
    width = length header;
    key = key;
    eobt = eobt;
    taxi = None;
    sts = None;
    entries = record { loc = ades; eto = arrival; may_be_empty = false } ∷ [];
    departure = Some adep;
  })

abbrev pub simple : Header → Result Places TitleFault
simple header = do
  key ← column header title.Key
  eobt ← column header title.Eobt
  taxi ← optional_column header title.Taxi
  sts ← optional_column header title.Sts
  entries ← pairs header 1 32
  Ok (record { width = length header; key = key; eobt = eobt; taxi = taxi; sts = sts; entries = entries; departure = None })

-- the archive form is told by its first column
unfoldable pub flight_columns : Header → Result Places TitleFault
flight_columns header = if times header title.EctrlId == 0 then simple header else archive header
