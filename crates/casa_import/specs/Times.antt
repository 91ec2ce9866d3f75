-- to believe: times of a day, as files have them, and the moments that they are
use Rattle.std.specs.Prelude.{ℕ, ◌+◌, ◌*◌, ◌-◌, ◌==◌, nat_le, ℤ, pos, ◌+ℤ◌, ◌-ℤ◌, ◌*ℤ◌, int_lt, unsigned_abs, Bool, ◌&&◌, ◌||◌, slice_index, codes, Option, Some, None, option_map, option_and_then, Result, Ok, Err, if◌then◌else◌}
use Rattle.std.specs.Cmp.Lexicographic.{pointwise}
use Rattle.jiff_core.specs.declared.civil.date.Date.{Date}
use Rattle.jiff_core.specs.Calendar.{days_from_civil, days_in_month}
use Rattle.jiff_core.specs.Date.{epoch_day}
use Rattle.casa_time.specs.Moment.{last_moment}
use Rattle.casa_filing.specs.Text.{Text}
use Rattle.casa_import.specs.declared.times.TimeFault.{TimeFault}
use Rattle.casa_import.specs.declared.times.TimeFault.TheVariants.{Unreadable, Before, After}

-- a character of 0 to 9
abbrev pub is_digit : ℕ → Bool
is_digit c = nat_le 48 c && nat_le c 57

-- whether a character may stand where a shape has this one: where it has 0, any digit, and else itself
abbrev pub may_stand : ℕ → ℕ → Bool
may_stand shape c = if shape == 48 then is_digit c else shape == c

-- whether a text has a shape, as 00:00 is that of 09:45
abbrev pub has_shape : Text → Text → Bool
has_shape shape text = pointwise may_stand shape text

-- the digit at a place, 0 where there is none; and the number that the two or four digits from there are
abbrev pub digit_at : ℕ → Text → ℕ
digit_at i text = if is_digit (slice_index text i) then slice_index text i - 48 else 0

abbrev pub two_digits_at : ℕ → Text → ℕ
two_digits_at i text = 10 * digit_at i text + digit_at (i + 1) text

abbrev pub four_digits_at : ℕ → Text → ℕ
four_digits_at i text = 100 * two_digits_at i text + two_digits_at (i + 2) text

-- the seconds from midnight to a time; hours are counted up to this one
abbrev pub clock : ℕ → ℕ → ℕ → ℕ → Option ℕ
clock last hour minute second =
    if nat_le hour last && (nat_le minute 59 && nat_le second 59) then Some (3600 * hour + 60 * minute + second) else None

-- those to the time that stands from a place on, as HH:MM:SS, or as HH:MM at the end of the text
abbrev pub clock_at : ℕ → ℕ → Text → Option ℕ
clock_at last i text = clock last (two_digits_at i text) (two_digits_at (i + 3) text) (two_digits_at (i + 6) text)

-- the number of a day of the calendar, if there is such a day
abbrev pub day_number : ℕ → ℕ → ℕ → Option ℤ
day_number year month day =
    if (nat_le 1 month && nat_le month 12) && (nat_le 1 day && nat_le day (days_in_month (pos year) month))
    then Some (days_from_civil (pos year) month day) else None

-- whether a text is a time alone; or one with its date, the day or the year first
abbrev pub is_alone : Text → Bool
is_alone text = has_shape (codes "00:00") text || has_shape (codes "00:00:00") text

abbrev pub is_day_first : Text → Bool
is_day_first text = has_shape (codes "00-00-0000 00:00:00") text

abbrev pub is_year_first : Text → Bool
is_year_first text =
    has_shape (codes "0000-00-00 00:00") text || (has_shape (codes "0000-00-00T00:00") text
    || (has_shape (codes "0000-00-00 00:00:00") text || has_shape (codes "0000-00-00T00:00:00") text))

-- the day of a text with a date
abbrev pub day_in : Text → Option ℤ
day_in text =
    if is_day_first text then day_number (four_digits_at 6 text) (two_digits_at 3 text) (two_digits_at 0 text)
    else (if is_year_first text then day_number (four_digits_at 0 text) (two_digits_at 5 text) (two_digits_at 8 text) else None)

-- the seconds from the midnight of a day to a time of the day with this number
abbrev pub seconds_between : Date → ℤ → ℕ → ℤ
seconds_between day number seconds = pos 86400 *ℤ (number -ℤ epoch_day day) +ℤ pos seconds

-- the seconds from the midnight of a day to the time that a text is; alone it has hours up to 47, over the next midnight
abbrev pub seconds_on : Date → Text → Option ℤ
seconds_on day text =
    if is_alone text then option_map (λ seconds. pos seconds) (clock_at 47 0 text)
    else option_and_then (λ number. option_map (seconds_between day number) (clock_at 23 11 text)) (day_in text)

-- the moment so many seconds after midnight
abbrev pub moment_at : ℤ → Result ℕ TimeFault
moment_at seconds =
    if int_lt seconds (pos 0) then Err Before
    else (if int_lt (pos last_moment) seconds then Err After else Ok (unsigned_abs seconds))

abbrev pub moment_or : Option ℤ → Result ℕ TimeFault
moment_or None = Err Unreadable
moment_or (Some seconds) = moment_at seconds

-- the moment of a day that a text is
unfoldable pub moment_on : Date → Text → Result ℕ TimeFault
moment_on day text = moment_or (seconds_on day text)

-- the name of a fault
abbrev pub time_fault_name : TimeFault → Text
time_fault_name Unreadable = codes "TimeUnreadable"
time_fault_name Before = codes "TimeBefore"
time_fault_name After = codes "TimeAfter"
