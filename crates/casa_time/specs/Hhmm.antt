-- to believe: times as hour and minute
use Rattle.std.specs.Prelude.{ℕ, ◌+◌, ◌/◌, ◌%◌, List, [], ◌∷◌, ◌++◌}

-- the character of a decimal digit
abbrev pub digit : ℕ → ℕ
digit n = 48 + n

-- a number below 100 in two digits
abbrev pub two_digits : ℕ → List ℕ
two_digits n = digit (n / 10) ∷ digit (n % 10) ∷ []

-- a time in seconds as hour, modulo 24, and minute, cut off
abbrev pub hhmm : ℕ → List ℕ
hhmm secs = two_digits (secs / 3600 % 24) ++ two_digits (secs / 60 % 60)
