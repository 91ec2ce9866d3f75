-- to believe: moments as dates with times of day
use Rattle.std.specs.Prelude.{ℕ, zero, suc, ◌+◌, ◌/◌, ◌%◌, ◌++◌, nat_lt, ℤ, pos, ◌+ℤ◌, codes, if◌then◌else◌}
use Rattle.std.specs.Ordering.{int_eq}
use Rattle.jiff_core.specs.declared.civil.date.Date.{Date}
use Rattle.jiff_core.specs.Calendar.{days_in_month}
use Rattle.jiff_fmt.specs.Text.{year_text}
use Rattle.casa_time.specs.Hhmm.{two_digits}
use Rattle.casa_filing.specs.Text.{Text}

-- a day of the calendar
pub record CalendarDay : Type 0 where
  pub year : ℤ
  pub month : ℕ
  pub day : ℕ

abbrev pub calendar_day : Date → CalendarDay
calendar_day date = record { year = date.year; month = date.month; day = date.day }

-- the day after it: in the same month, the first of the next one, or 1 January; 9999-12-31, the last day, stands for itself
abbrev pub next_day : CalendarDay → CalendarDay
next_day d =
    if nat_lt d.day (days_in_month d.year d.month) then record d { day = d.day + 1 }
    else (if nat_lt d.month 12 then record d { month = d.month + 1; day = 1 }
    else (if int_eq d.year (pos 9999) then d else record { year = d.year +ℤ pos 1; month = 1; day = 1 }))

-- the day so many days after it
abbrev pub days_after : ℕ → CalendarDay → CalendarDay
days_after zero d = d
days_after (suc n) d = next_day (days_after n d)

-- a day, as 2025-06-01
abbrev pub day_text : CalendarDay → Text
day_text d = year_text d.year ++ (codes "-" ++ (two_digits d.month ++ (codes "-" ++ two_digits d.day)))

-- the time of day of a time in seconds, as 10:00:05
abbrev pub clock_text : ℕ → Text
clock_text secs =
    two_digits (secs / 3600 % 24) ++ (codes ":" ++ (two_digits (secs / 60 % 60) ++ (codes ":" ++ two_digits (secs % 60))))

-- a time in seconds from midnight of a day, as 2025-06-01T10:00:05; from 86,400 on it is of the next day, and so on
abbrev pub moment_text : Date → ℕ → Text
moment_text day secs = day_text (days_after (secs / 86400) (calendar_day day)) ++ (codes "T" ++ clock_text secs)
