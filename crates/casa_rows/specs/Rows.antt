-- to believe: the rows of a text, which are the records that csv reads, each with its line
use Rattle.std.specs.Prelude.{◌≡◌, ℕ, List, [], ◌∷◌, None, Some, Vec, map}
use Rattle.std.specs.declared.alloc.Global.{Global}
use Rattle.csv.specs.Machine.{Read, next_record}
use Rattle.csv.specs.Reading.{default_config, strip_bom}
use Rattle.csv.specs.declared.parser.Config.{Config}
use Rattle.csv.specs.declared.parser.State.{State}
use Rattle.csv.specs.declared.parser.State.TheVariants as st
use Rattle.casa_rows.specs.Lines.{BeginsOnLine, from_first_line}
use Rattle.casa_rows.specs.Separator.{separator}
use Rattle.casa_rows.specs.declared.row.Row.{Row}
use Rattle.casa_rows.specs.declared.table.Table.{Table}

abbrev pub texts : List (Vec ℕ Global) → List (List ℕ)
texts vectors = map (λ (vector : Vec ℕ Global). vector.items) vectors

abbrev pub fields : Row → List (List ℕ)
fields row = texts row.fields.items

-- as csv reads by default (RFC 4180), but with this separator
abbrev pub config : ℕ → Config
config separator = record default_config { delimiter = separator }

-- what is left of a text is read from this state as these rows: each has the fields of csv's next record, and the line of
-- the first byte that ends no line, which is the first of the record; behind the last one csv reads no record
unfoldable pub AreRowsFrom : Config → List ℕ → State → List ℕ → List Row → Type 0
AreRowsFrom how text state left [] = next_record how state [] [] left ≡ None
AreRowsFrom how text state left (row ∷ rows) =
    (read : Read) × (next_record how state [] [] left ≡ Some read) × (fields row ≡ read.0) × BeginsOnLine text (from_first_line left) row.line
    × AreRowsFrom how text read.1 read.2 rows

-- all rows of a text, the header too; no line feed stands in a byte order mark, so lines are counted behind it
abbrev pub AreRows : List ℕ → List Row → Type 0
AreRows file rows = let text = strip_bom file in AreRowsFrom (config (separator text)) text st.StartRecord text rows

-- the first row is the header: its fields are the titles; a text without rows has no titles
abbrev pub titles_of : List Row → List (List ℕ)
titles_of [] = []
titles_of (header ∷ rows) = fields header

abbrev pub rows_of : List Row → List Row
rows_of [] = []
rows_of (header ∷ rows) = rows

abbrev pub titles : Table → List (List ℕ)
titles table = texts table.header.items

abbrev pub IsTable : List ℕ → Table → Type 0
IsTable file table = (all : List Row) × AreRows file all × (titles table ≡ titles_of all) × (table.rows.items ≡ rows_of all)
