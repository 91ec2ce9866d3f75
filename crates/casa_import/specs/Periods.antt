-- to believe: what a row of regulations says, or why it is left out
use Rattle.std.specs.Prelude.{ℕ, Option, Some, None, Result, Ok, if◌then◌else◌}
use Rattle.jiff_core.specs.declared.civil.date.Date.{Date}
use Rattle.casa_filing.specs.Text.{Text, is_name}
use Rattle.casa_import.specs.declared.columns.RegulationColumns.{RegulationColumns}
use Rattle.casa_import.specs.declared.periods.RegulationPeriod.{RegulationPeriod}
use Rattle.casa_import.specs.declared.periods.RegulationRow.{RegulationRow}
use Rattle.casa_import.specs.declared.reason.Reason.{Reason}
use Rattle.casa_import.specs.declared.reason.Reason.TheVariants.{BadReg, BadRate}
use Rattle.casa_rows.specs.declared.row.Row.{Row}
use Rattle.casa_rows.specs.Fields.{text_in}
use Rattle.casa_import.specs.Fields.{◌>>=◌, even, location_in, moment_in, number_of, or_reason}

-- the identifier that a text is
abbrev pub reg_named : Text → Option Text
reg_named text = if is_name text then Some text else None

-- the identifier, the rate in a column
abbrev pub reg_in : ℕ → Row → Result Text Reason
reg_in column row = or_reason (BadReg column) (reg_named (text_in column row))

abbrev pub rate_in : ℕ → Row → Result ℕ Reason
rate_in column row = or_reason (BadRate column) (number_of (text_in column row))

-- a period of a regulation at a location
abbrev pub period_of : Date → RegulationColumns → Row → Result RegulationPeriod Reason
period_of day columns row = do
  _ ← even columns.width row
  reg ← reg_in columns.reg row
  loc ← location_in columns.loc row
  begin ← moment_in day columns.from row
  until ← moment_in day columns.to row
  rate ← rate_in columns.rate row
  Ok (record { reg = reg; loc = loc; period = record { begin = begin; until = until; rate = rate } })

-- a row with the identifier that stands in it, be it left out or not
abbrev pub said_row : Date → RegulationColumns → Row → RegulationRow
said_row day columns row = record { line = row.line; reg = reg_in columns.reg row; said = period_of day columns row }
