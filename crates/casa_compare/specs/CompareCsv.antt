-- to believe: the flights that do not stand alike on two days, as comma-separated values
use Rattle.std.specs.Prelude.{List, [], ◌∷◌, codes, decimal}
use Rattle.jiff_core.specs.declared.civil.date.Date.{Date}
use Rattle.casa_filing.specs.Text.{Text}
use Rattle.casa_report.specs.Csv.{Field, csv, or_empty}
use Rattle.casa_report.specs.Moments.{moment_text}
use Rattle.casa_difference.specs.declared.comparison.Comparison.{Comparison}
use Rattle.casa_difference.specs.declared.flights.Difference.{Difference}
use Rattle.casa_compare.specs.Shown.{ctot_in, delay_in, reg_in}

abbrev pub difference_fields : Date → List (Field Difference)
difference_fields day =
    record { title = codes "KEY"; value = λ flight. flight.key } ∷
    record { title = codes "BASE_REG"; value = λ flight. or_empty (λ text. text) (reg_in flight.base) } ∷
    record { title = codes "BASE_CTOT"; value = λ flight. or_empty (moment_text day) (ctot_in flight.base) } ∷
    record { title = codes "BASE_DELAY"; value = λ flight. or_empty decimal (delay_in flight.base) } ∷
    record { title = codes "VARIANT_REG"; value = λ flight. or_empty (λ text. text) (reg_in flight.variant) } ∷
    record { title = codes "VARIANT_CTOT"; value = λ flight. or_empty (moment_text day) (ctot_in flight.variant) } ∷
    record { title = codes "VARIANT_DELAY"; value = λ flight. or_empty decimal (delay_in flight.variant) } ∷ []

-- a record for each flight
abbrev pub compare_csv : Date → Comparison → Text
compare_csv day found = csv (difference_fields day) found.flights
