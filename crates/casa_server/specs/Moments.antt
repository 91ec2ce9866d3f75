-- to believe: which moment of a day an instant is
use Rattle.std.specs.Prelude.{ℕ, ◌+◌, ◌*◌, ℤ, pos, ◌*ℤ◌, ◌-ℤ◌, ◌≤ℤ◌, ◌<ℤ◌, ◌⊎◌}
use Rattle.jiff_core.specs.Date.{epoch_day}
use Rattle.jiff_core.specs.declared.civil.date.Date.{Date}
use Rattle.jiff_core.specs.declared.timestamp.Timestamp.{Timestamp}
use Rattle.casa_time.specs.Moment.{last_moment}

abbrev pub seconds_of_day : ℕ
seconds_of_day = 86400

abbrev pub nanoseconds : ℕ → ℤ
nanoseconds seconds = pos (seconds * 1000000000)

-- how long after the day's midnight UTC an instant is, in nanoseconds
abbrev pub since_midnight : Date → Timestamp → ℤ
since_midnight day now = now.nanosecond -ℤ (epoch_day day *ℤ nanoseconds seconds_of_day)

-- so many whole seconds have passed since midnight
abbrev pub IsInSecond : ℕ → Date → Timestamp → Type 0
IsInSecond seconds day now =
    (nanoseconds seconds ≤ℤ since_midnight day now)
    × (since_midnight day now <ℤ nanoseconds (seconds + 1))

-- it is not midnight yet, or the last second of a moment has passed
abbrev pub IsOutside : Date → Timestamp → Type 0
IsOutside day now =
    (since_midnight day now <ℤ pos 0)
    ⊎ (nanoseconds (last_moment + 1) ≤ℤ since_midnight day now)
