-- to believe: by how much a number changes from one day to another
use Rattle.std.specs.Prelude.{ℕ, ◌-◌, ◌++◌, nat_lt, Option, None, Some, codes, decimal, if◌then◌else◌}
use Rattle.casa_filing.specs.Text.{Text}

-- with a minus sign where the second number is less, and with a plus sign where it is greater; 0 where they are the same
abbrev pub change_text : ℕ → ℕ → Text
change_text from to =
    if nat_lt to from then codes "-" ++ decimal (from - to)
    else (if nat_lt from to then codes "+" ++ decimal (to - from) else decimal 0)

-- or a hyphen where one of the numbers is missing
abbrev pub change_or_hyphen : Option ℕ → Option ℕ → Text
change_or_hyphen (Some from) (Some to) = change_text from to
change_or_hyphen (Some from) None = codes "-"
change_or_hyphen None to = codes "-"
