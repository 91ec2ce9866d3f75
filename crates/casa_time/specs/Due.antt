-- to believe: when a flight is due, and when it is gone
use Rattle.std.specs.Prelude.{ℕ, ◌+◌, Bool, nat_le, nat_lt}

-- how long before its off-block time a flight is due: two hours (profile)
abbrev pub issue_lead : ℕ
issue_lead = 7200

-- a flight is due if its off-block time is at most two hours after the clock (profile)
abbrev pub is_due : ℕ → ℕ → Bool
is_due clock eobt = nat_le eobt (clock + issue_lead)

-- a flight is gone if its estimated take-off time is before the clock (profile)
abbrev pub is_gone : ℕ → ℕ → Bool
is_gone clock etot = nat_lt etot clock
