-- to believe: the crossings of a file, by the flights that make them
use Rattle.std.specs.Prelude.{◌≡◌, ℕ, ◌+◌, Bool, not, ◌&&◌, List, [], ◌∷◌, ◌++◌, map, filter, count_by, Option, None, Some, Result, Ok, Err, if◌then◌else◌}
use Rattle.std.specs.List.{list_any, filter_map}
use Rattle.jiff_core.specs.declared.civil.date.Date.{Date}
use Rattle.casa_filing.specs.Text.{Text, is_name, same_text}
use Rattle.casa_filing.specs.declared.plan.Crossing.{Crossing}
use Rattle.casa_import.specs.declared.columns.CrossingColumns.{CrossingColumns}
use Rattle.casa_import.specs.declared.crossings.CrossingsRead.{CrossingsRead}
use Rattle.casa_import.specs.declared.reason.LeftOut.{LeftOut}
use Rattle.casa_import.specs.declared.reason.Reason.{Reason}
use Rattle.casa_rows.specs.declared.row.Row.{Row}
use Rattle.casa_rows.specs.Fields.{text_in}
use Rattle.casa_import.specs.Fields.{crossing_of}
use Rattle.casa_import.specs.Keyed.{flown}

-- whether one of the rows of flights has this key in its column
abbrev pub names : ℕ → Text → Row → Bool
names column key row = is_name (text_in column row) && same_text (text_in column row) key

abbrev pub is_named : ℕ → List Row → Text → Bool
is_named column rows key = list_any (names column key) rows

-- what rows make, and those that make nothing, each with its line
abbrev pub made_of : {A : Type 0} → Result A Reason → Option A
made_of (Ok x) = Some x
made_of (Err _) = None

abbrev pub left_out_of : {A : Type 0} → Row → Result A Reason → Option LeftOut
left_out_of row (Ok _) = None
left_out_of row (Err reason) = Some (record { line = row.line; reason = reason })

-- a crossing with the key of its flight
abbrev pub Entry : Type 0
Entry = Text × Crossing

-- the crossings that rows have, in the order of the file
abbrev pub entries : Date → CrossingColumns → List Row → List Entry
entries day columns rows = filter_map (λ row. made_of (crossing_of day columns row)) rows

-- the rows that are left out
abbrev pub rows_left_out : Date → CrossingColumns → List Row → List LeftOut
rows_left_out day columns rows = filter_map (λ row. left_out_of row (crossing_of day columns row)) rows

-- the crossings of one flight
abbrev pub of_key : Text → List Entry → List Crossing
of_key key es = map (λ (e : Entry). e.1) (filter (λ (e : Entry). same_text e.0 key) es)

-- those of the flights that are named; how many others there are
abbrev pub of_flights : (Text → Bool) → List Entry → List Entry
of_flights named es = filter (λ (e : Entry). named e.0) es

abbrev pub of_no_flight : (Text → Bool) → List Entry → ℕ
of_no_flight named es = count_by (λ (e : Entry). not (named e.0)) es

-- how many enter a location again that their flight has entered before
abbrev pub is_same_entry : Entry → Entry → Bool
is_same_entry e d = same_text d.0 e.0 && same_text d.1.loc e.1.loc

abbrev pub again_behind : List Entry → List Entry → ℕ
again_behind before [] = 0
again_behind before (e ∷ es) =
    (if list_any (is_same_entry e) before then 1 else 0) + again_behind (before ++ e ∷ []) es

abbrev pub entered_again : List Entry → ℕ
entered_again es = again_behind [] es

-- what is read of rows of crossings, where these flights are named
pub record IsRead (day : Date) (columns : CrossingColumns) (named : Text → Bool) (rows : List Row) (read : CrossingsRead) : Type 0 where
  pub crossings : (key : Text) → flown read.crossings key ≡ of_key key (of_flights named (entries day columns rows))
  pub left_out : read.left_out.items ≡ rows_left_out day columns rows
  pub of_no_flight : read.of_no_flight ≡ of_no_flight named (entries day columns rows)
  pub entered_again : read.entered_again ≡ entered_again (of_flights named (entries day columns rows))
