-- to believe: what each regulation costs, as comma-separated values
use Rattle.std.specs.Prelude.{List, [], ◌∷◌, codes, decimal}
use Rattle.jiff_core.specs.declared.civil.date.Date.{Date}
use Rattle.casa_filing.specs.Text.{Text}
use Rattle.casa_flight.specs.declared.reply.ListReply.{ListReply}
use Rattle.casa_inquiry.specs.Summary.{cost_of, mean_delay}
use Rattle.casa_report.specs.Csv.{Field, csv, or_empty}
use Rattle.casa_report.specs.Moments.{moment_text}

-- of a regulation, by its list
abbrev pub cost_fields : Date → List (Field ListReply)
cost_fields day =
    record { title = codes "REG"; value = λ list. list.reg } ∷
    record { title = codes "LOC"; value = λ list. list.loc } ∷
    record { title = codes "FROM"; value = λ list. moment_text day list.start } ∷
    record { title = codes "TO"; value = λ list. moment_text day list.end } ∷
    record { title = codes "SLOTS"; value = λ list. decimal (cost_of list).slots } ∷
    record { title = codes "GOVERNED"; value = λ list. decimal (cost_of list).governed } ∷
    record { title = codes "ISSUED"; value = λ list. decimal (cost_of list).issued } ∷
    record { title = codes "FORCED"; value = λ list. decimal (cost_of list).forced } ∷
    record { title = codes "OVER"; value = λ list. decimal (cost_of list).over } ∷
    record { title = codes "DELAY"; value = λ list. decimal (cost_of list).delay } ∷
    record { title = codes "MEAN"; value = λ list. or_empty decimal (mean_delay (cost_of list)) } ∷
    record { title = codes "LONGEST"; value = λ list. decimal (cost_of list).longest } ∷ []

-- a record for each regulation, by its list
abbrev pub summary_csv : Date → List ListReply → Text
summary_csv day lists = csv (cost_fields day) lists
