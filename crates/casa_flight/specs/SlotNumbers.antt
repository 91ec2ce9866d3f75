-- inner contracts: how the number of a slot is kept
use Rattle.std.specs.Prelude.{ℕ, ◌+◌, ◌-◌, ◌==◌, Option, None, Some, if◌then◌else◌}

-- the number before this one; of zero there is none
abbrev pub number_before : ℕ → Option ℕ
number_before n = if n == 0 then None else Some (n - 1)

-- to believe: the number behind this one, and zero where there is none
abbrev pub number_behind : Option ℕ → ℕ
number_behind None = 0
number_behind (Some k) = k + 1
