-- to believe: the fields of a row
use Rattle.std.specs.Prelude.{ℕ, List, [], slice_get}
use Rattle.std.specs.Option.{option_map_or}
use Rattle.casa_rows.specs.declared.row.Row.{Row}

-- the text in a column, counted from 0; no characters where the row has no such column
abbrev pub text_in : ℕ → Row → List ℕ
text_in column row = option_map_or (λ text. text.items) (slice_get row.fields.items column) []
