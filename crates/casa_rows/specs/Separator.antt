-- to believe: what separates the fields of a text
use Rattle.std.specs.Prelude.{ℕ, List, not, ◌==◌, if◌then◌else◌}
use Rattle.std.specs.List.{list_any, take_while}
use Rattle.casa_rows.specs.Lines.{from_first_line, is_line_end}

-- the first line that is not empty
abbrev pub header_line : List ℕ → List ℕ
header_line text = take_while (λ byte. not (is_line_end byte)) (from_first_line text)

-- a semicolon where that line has one, else a comma
abbrev pub separator : List ℕ → ℕ
separator text = if list_any (λ byte. byte == 59) (header_line text) then 59 else 44
