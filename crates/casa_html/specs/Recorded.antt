-- to believe: the page with what it shows in it
use Rattle.std.specs.Prelude.{ℕ, ◌==◌, List, [], ◌∷◌, ◌++◌, flat_map, codes, if◌then◌else◌}

-- a byte of JSON in a script: in place of `<`, which could end the script and stands in strings alone, how JSON may write it
abbrev pub script_text : ℕ → List ℕ
script_text byte = if byte == 60 then codes "\\u003c" else byte ∷ []

abbrev pub scripted : List ℕ → List ℕ
scripted json = flat_map script_text json

-- the page, and behind it a script that has what is shown
abbrev pub recorded_page : List ℕ → List ℕ → List ℕ
recorded_page page recorded = page ++ (codes "<script>const RECORDED=" ++ (scripted recorded ++ codes "</script>\n"))
