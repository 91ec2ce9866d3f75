-- to believe: what a reader makes of comma-separated values
use Rattle.std.specs.Prelude.{◌≡◌, ℕ, ◌<◌, List, [], ◌∷◌, map, length, All, Bool, false, ◌==◌}
use Rattle.std.specs.List.{flat_map, slice_split}
use Rattle.casa_filing.specs.Text.{Text}
use Rattle.casa_report.specs.Csv.{csv_line}

abbrev pub is_comma : ℕ → Bool
is_comma byte = byte == 44

abbrev pub is_line_end : ℕ → Bool
is_line_end byte = byte == 10

-- all but the last of these
abbrev pub but_last : {X : Type 0} → List X → List X
but_last [] = []
but_last (x ∷ []) = []
but_last (x ∷ y ∷ ys) = x ∷ but_last (y ∷ ys)

-- a text is cut at its line ends, behind the last of which no record stands, and each line at its commas
abbrev pub read_csv : Text → List (List Text)
read_csv text = map (slice_split is_comma) (but_last (slice_split is_line_end text))

-- a value with neither comma nor line end
abbrev pub IsPlain : Text → Type 0
IsPlain value = All (λ byte. (is_comma byte ≡ false) × (is_line_end byte ≡ false)) value

-- some such values
abbrev pub IsPlainRecord : List Text → Type 0
IsPlainRecord values = (0 < length values) × All IsPlain values

-- lines of such values are read as these
abbrev pub CsvIsReadBack : Type 0
CsvIsReadBack = (records : List (List Text)) → All IsPlainRecord records → read_csv (flat_map csv_line records) ≡ records
