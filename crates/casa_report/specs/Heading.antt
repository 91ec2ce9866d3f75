-- to believe: the line above a table
use Rattle.std.specs.Prelude.{[], ◌∷◌, ◌++◌, codes}
use Rattle.jiff.specs.Words.{date_text}
use Rattle.jiff_core.specs.declared.civil.date.Date.{Date}
use Rattle.casa_filing.specs.Text.{Text}

-- the line above a table: the regulation, or the flight, and the day
abbrev pub heading_line : Text → Date → Text
heading_line name day = codes "CASA " ++ (name ++ (codes " " ++ (date_text day ++ 10 ∷ [])))
