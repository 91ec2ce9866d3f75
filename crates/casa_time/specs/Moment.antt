-- to believe: the last moment
use Rattle.std.specs.Prelude.{ℕ}

-- the last second of the day after the engine's day (profile)
abbrev pub last_moment : ℕ
last_moment = 172799
