-- to believe: columns of a table: where a text stands in its width, and what a line has in each column
use Rattle.std.specs.Prelude.{ℕ, ◌-◌, List, [], ◌∷◌, ◌++◌, map, length, replicate, codes, decimal, Option, Some, None}
use Rattle.std.specs.List.{join_with_byte}
use Rattle.casa_filing.specs.Text.{Text}

-- a text on the left of so many characters, and one on the right; a longer text is written whole
abbrev pub left : ℕ → Text → Text
left width text = text ++ replicate (width - length text) 32

abbrev pub right : ℕ → Text → Text
right width text = replicate (width - length text) 32 ++ text

-- a number, or a hyphen where there is none
abbrev pub number_text : Option ℕ → Text
number_text (Some number) = decimal number
number_text None = codes "-"

-- a column: its title, where a text stands in its width, and what it shows
pub record Column (X : Type 0) : Type 0 where
  pub title : Text
  pub place : Text → Text
  pub shown : X → Text

-- a line has a text in each column; one space parts the columns
abbrev pub line_of : {X : Type 0} → List (Column X) → (Column X → Text) → Text
line_of {X} columns text = join_with_byte 32 (map (λ (column : Column X). column.place (text column)) columns) ++ 10 ∷ []

-- the line of the titles, and the line that shows x
abbrev pub titles : {X : Type 0} → List (Column X) → Text
titles columns = line_of columns (λ column. column.title)

abbrev pub shown_line : {X : Type 0} → List (Column X) → X → Text
shown_line columns x = line_of columns (λ column. column.shown x)
