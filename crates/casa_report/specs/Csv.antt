-- to believe: comma-separated values, as RFC 4180 has them, but a line ends with a line feed alone
use Rattle.std.specs.Prelude.{List, [], ◌∷◌, ◌++◌, map, Option}
use Rattle.std.specs.List.{flat_map, join_with_byte}
use Rattle.std.specs.Option.{option_map_or}
use Rattle.casa_filing.specs.Text.{Text}

-- these values with a comma between each two, and a line feed
abbrev pub csv_line : List Text → Text
csv_line values = join_with_byte 44 values ++ 10 ∷ []

-- a field: its title, and its value of x
pub record Field (X : Type 0) : Type 0 where
  pub title : Text
  pub value : X → Text

-- an empty value where there is none
abbrev pub or_empty : {X : Type 0} → (X → Text) → Option X → Text
or_empty value found = option_map_or value found []

-- the line of the titles, and the record of x
abbrev pub titles_line : {X : Type 0} → List (Field X) → Text
titles_line {X} fields = csv_line (map (λ (field : Field X). field.title) fields)

abbrev pub record_line : {X : Type 0} → List (Field X) → X → Text
record_line {X} fields x = csv_line (map (λ (field : Field X). field.value x) fields)

-- the titles, and a record for each of these
abbrev pub csv : {X : Type 0} → List (Field X) → List X → Text
csv fields xs = titles_line fields ++ flat_map (record_line fields) xs
