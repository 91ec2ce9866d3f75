-- to believe: what was found in a file
use Rattle.std.specs.Prelude.{ℕ, List}
use Rattle.casa_tape.specs.declared.found.Found.{Found}
use Rattle.casa_tape.specs.Lines.{whole_lines}

-- all bytes of the file
abbrev pub bytes_found : Found → List ℕ
bytes_found found = found.bytes.items

-- the lines for which it stands
abbrev pub lines_found : Found → List (List ℕ)
lines_found found = whole_lines (bytes_found found)
