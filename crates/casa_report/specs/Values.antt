-- inner contracts: how the values of a record are written
use Rattle.std.specs.Prelude.{List, [], ◌∷◌, flat_map, map, decimal}
use Rattle.jiff_core.specs.declared.civil.date.Date.{Date}
use Rattle.casa_filing.specs.Text.{Text}
use Rattle.casa_report.specs.declared.csv.Value.{Value}
use Rattle.casa_report.specs.declared.csv.Value.TheVariants.{Plain, Number, Moment, Absent}
use Rattle.casa_report.specs.Csv.{csv_line}
use Rattle.casa_report.specs.Moments.{moment_text}

abbrev pub value_text : Date → Value → Text
value_text day (Plain text) = text.now
value_text day (Number number) = decimal number
value_text day (Moment secs) = moment_text day secs
value_text day Absent = []

-- a value behind another one, and several
abbrev pub behind_comma : Date → Value → Text
behind_comma day value = 44 ∷ value_text day value

abbrev pub more_values : Date → List Value → Text
more_values day values = flat_map (behind_comma day) values

abbrev pub values_line : Date → List Value → Text
values_line day values = csv_line (map (value_text day) values)
