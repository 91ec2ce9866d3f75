-- to believe: demand and capacity of a regulation, as comma-separated values
use Rattle.std.specs.Prelude.{List, [], ◌∷◌, codes, decimal}
use Rattle.jiff_core.specs.declared.civil.date.Date.{Date}
use Rattle.casa_filing.specs.Text.{Text}
use Rattle.casa_inquiry.specs.declared.load.Step.{Step}
use Rattle.casa_report.specs.Csv.{Field, csv, or_empty}
use Rattle.casa_report.specs.Moments.{moment_text}

-- what is behind the end has no end
abbrev pub step_fields : Date → List (Field Step)
step_fields day =
    record { title = codes "FROM"; value = λ s. moment_text day s.span.from } ∷
    record { title = codes "TO"; value = λ s. or_empty (moment_text day) s.span.until } ∷
    record { title = codes "PLANNED"; value = λ s. decimal s.planned } ∷
    record { title = codes "SLOTS"; value = λ s. decimal s.slots } ∷
    record { title = codes "CALCULATED"; value = λ s. decimal s.calculated } ∷ []

-- a record for each step
abbrev pub load_csv : Date → List Step → Text
load_csv day steps = csv (step_fields day) steps
