-- to believe: what the fields of a row say, or why the row is left out
use Rattle.std.specs.Prelude.{ℕ, ◌+◌, ◌*◌, ◌==◌, length, Option, Some, None, option_map, Result, Ok, Err, codes, bytes_eq, if◌then◌else◌}
use Rattle.jiff_core.specs.declared.civil.date.Date.{Date}
use Rattle.casa_filing.specs.Text.{Text, is_name}
use Rattle.casa_filing.specs.declared.plan.Crossing.{Crossing}
use Rattle.casa_filing.specs.declared.plan.Sts.{Sts}
use Rattle.casa_filing.specs.declared.plan.Sts.TheVariants.{Plain, Head, Sar, Medevac, Ffr, Atfmx}
use Rattle.casa_import.specs.declared.columns.CrossingColumns.{CrossingColumns}
use Rattle.casa_import.specs.declared.reason.Reason.{Reason}
use Rattle.casa_import.specs.declared.reason.Reason.TheVariants.{Uneven, BadKey, Time, BadTaxi, BadSts, BadLocation}
use Rattle.casa_rows.specs.declared.row.Row.{Row}
use Rattle.casa_import.specs.declared.times.TimeFault.{TimeFault}
use Rattle.casa_rows.specs.Fields.{text_in}
use Rattle.casa_import.specs.Times.{digit_at, two_digits_at, four_digits_at, has_shape, moment_on}

-- what a row says, and then this of it; the first reason stands
infixl 10 ◌>>=◌
abbrev pub ◌>>=◌ : {A B : Type 0} → Result A Reason → (A → Result B Reason) → Result B Reason
(Ok x) >>= next = next x
(Err reason) >>= next = Err reason

abbrev pub or_reason : {A : Type 0} → Reason → Option A → Result A Reason
or_reason reason None = Err reason
or_reason reason (Some x) = Ok x

-- a row has as many fields as the header
abbrev pub even : ℕ → Row → Result (Unit {0}) Reason
even width row = if length row.fields.items == width then Ok tt else Err Uneven

-- the key, the location in a column
abbrev pub key_in : ℕ → Row → Result Text Reason
key_in column row = if is_name (text_in column row) then Ok (text_in column row) else Err (BadKey column)

abbrev pub location_in : ℕ → Row → Result Text Reason
location_in column row = if is_name (text_in column row) then Ok (text_in column row) else Err (BadLocation column)

-- the moment of a day in a column
abbrev pub at_column : {A : Type 0} → ℕ → Result A TimeFault → Result A Reason
at_column column (Ok moment) = Ok moment
at_column column (Err fault) = Err (Time fault column)

abbrev pub moment_in : Date → ℕ → Row → Result ℕ Reason
moment_in day column row = at_column column (moment_on day (text_in column row))

-- the entry whose location and time stand in two columns
abbrev pub entry_in : Date → ℕ → ℕ → Row → Result Crossing Reason
entry_in day at_loc at_eto row = do
  loc ← location_in at_loc row
  eto ← moment_in day at_eto row
  Ok (record { loc = loc; eto = eto })

-- the number that a text of one to four digits is
abbrev pub number_of : Text → Option ℕ
number_of text =
    if has_shape (codes "0") text then Some (digit_at 0 text)
    else (if has_shape (codes "00") text then Some (two_digits_at 0 text)
    else (if has_shape (codes "000") text then Some (10 * two_digits_at 0 text + digit_at 2 text)
    else (if has_shape (codes "0000") text then Some (four_digits_at 0 text) else None)))

-- the taxi time in a column: none where there is no such column, or nothing in it
abbrev pub taxi_in : Option ℕ → Row → Result (Option ℕ) Reason
taxi_in None row = Ok None
taxi_in (Some column) row =
    if length (text_in column row) == 0 then Ok None
    else or_reason (BadTaxi column) (option_map (λ taxi. Some taxi) (number_of (text_in column row)))

-- the status with a name
abbrev pub status_named : Text → Option Sts
status_named text =
    if bytes_eq text (codes "HEAD") then Some Head
    else (if bytes_eq text (codes "SAR") then Some Sar
    else (if bytes_eq text (codes "MEDEVAC") then Some Medevac
    else (if bytes_eq text (codes "FFR") then Some Ffr
    else (if bytes_eq text (codes "ATFMX") then Some Atfmx else None))))

-- the status in a column: the plain one where there is no such column, or nothing in it
abbrev pub sts_in : Option ℕ → Row → Result Sts Reason
sts_in None row = Ok Plain
sts_in (Some column) row =
    if length (text_in column row) == 0 then Ok Plain
    else or_reason (BadSts column) (status_named (text_in column row))

-- the key and the crossing of a row of crossings
abbrev pub crossing_of : Date → CrossingColumns → Row → Result (Text × Crossing) Reason
crossing_of day columns row = do
  _ ← even columns.width row
  key ← key_in columns.key row
  entry ← entry_in day columns.loc columns.eto row
  Ok (key, entry)
