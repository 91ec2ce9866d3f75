-- to believe: what each regulation costs, and all together, as a table
use Rattle.std.specs.Prelude.{List, [], ◌∷◌, ◌++◌, codes, decimal}
use Rattle.std.specs.List.{flat_map}
use Rattle.jiff.specs.Words.{date_text}
use Rattle.jiff_core.specs.declared.civil.date.Date.{Date}
use Rattle.casa_time.specs.Hhmm.{hhmm}
use Rattle.casa_filing.specs.Text.{Text}
use Rattle.casa_flight.specs.declared.reply.ListReply.{ListReply}
use Rattle.casa_inquiry.specs.declared.summary.Cost.{Cost}
use Rattle.casa_inquiry.specs.Summary.{cost_of, cost_of_all, mean_delay}
use Rattle.casa_report.specs.Columns.{Column, left, number_text, right, shown_line, titles}

-- what a line shows: which regulation it is of, and what it costs
pub record CostLine : Type 0 where
  pub reg : Text
  pub loc : Text
  pub start : Text
  pub end : Text
  pub cost : Cost

abbrev pub cost_columns : List (Column CostLine)
cost_columns =
    record { title = codes "REG"; place = left 10; shown = λ line. line.reg } ∷
    record { title = codes "LOC"; place = left 10; shown = λ line. line.loc } ∷
    record { title = codes "FROM"; place = left 4; shown = λ line. line.start } ∷
    record { title = codes "TO"; place = left 4; shown = λ line. line.end } ∷
    record { title = codes "SLOTS"; place = right 5; shown = λ line. decimal line.cost.slots } ∷
    record { title = codes "GOVERNED"; place = right 8; shown = λ line. decimal line.cost.governed } ∷
    record { title = codes "ISSUED"; place = right 6; shown = λ line. decimal line.cost.issued } ∷
    record { title = codes "FORCED"; place = right 6; shown = λ line. decimal line.cost.forced } ∷
    record { title = codes "OVER"; place = right 4; shown = λ line. decimal line.cost.over } ∷
    record { title = codes "DELAY"; place = right 8; shown = λ line. decimal line.cost.delay } ∷
    record { title = codes "MEAN"; place = right 5; shown = λ line. number_text (mean_delay line.cost) } ∷
    record { title = codes "LONGEST"; place = right 7; shown = λ line. decimal line.cost.longest } ∷ []

abbrev pub cost_header : Text
cost_header = titles cost_columns

abbrev pub cost_line : CostLine → Text
cost_line line = shown_line cost_columns line

-- the line of a regulation, by its list
abbrev pub regulation_line : ListReply → Text
regulation_line list =
    cost_line (record { reg = list.reg; loc = list.loc; start = hhmm list.start; end = hhmm list.end; cost = cost_of list })

-- the line of all regulations together, which no regulation is named as
abbrev pub totals_line : Cost → Text
totals_line cost = cost_line (record { reg = codes "all"; loc = codes "-"; start = codes "-"; end = codes "-"; cost = cost })

-- the line above the table: the day
abbrev pub day_line : Date → Text
day_line day = codes "CASA " ++ (date_text day ++ 10 ∷ [])

-- the header, a line for each regulation, and the totals
abbrev pub summary_table : List ListReply → Text
summary_table lists = cost_header ++ (flat_map regulation_line lists ++ totals_line (cost_of_all lists))

-- the heading with the day, and below it that table
abbrev pub summary_text : Date → List ListReply → Text
summary_text day lists = day_line day ++ summary_table lists
