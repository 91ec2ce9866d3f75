-- to believe: what differs between two days, as tables
use Rattle.std.specs.Prelude.{ℕ, List, [], ◌∷◌, ◌++◌, Option, codes, decimal}
use Rattle.jiff_core.specs.declared.civil.date.Date.{Date}
use Rattle.casa_filing.specs.Text.{Text}
use Rattle.casa_inquiry.specs.Summary.{mean_delay}
use Rattle.casa_report.specs.Columns.{Column, left, number_text, right, shown_line, titles}
use Rattle.casa_report.specs.LoadTable.{time_text}
use Rattle.casa_report.specs.SummaryTable.{day_line}
use Rattle.casa_report.specs.WhyText.{name_text, section}
use Rattle.casa_difference.specs.declared.comparison.Comparison.{Comparison}
use Rattle.casa_difference.specs.declared.flights.Difference.{Difference}
use Rattle.casa_difference.specs.declared.standing.Standing.{Standing}
use Rattle.casa_difference.specs.declared.totals.Totals.{Totals}
use Rattle.casa_compare.specs.Changes.{change_or_hyphen, change_text}
use Rattle.casa_compare.specs.Shown.{ctot_in, delay_in, reg_in}

-- what a line of totals shows: what it is of, and a text for each figure
pub record TotalsLine : Type 0 where
  pub day : Text
  pub regulations : Text
  pub slots : Text
  pub governed : Text
  pub issued : Text
  pub forced : Text
  pub over : Text
  pub delay : Text
  pub mean : Text
  pub longest : Text

abbrev pub totals_columns : List (Column TotalsLine)
totals_columns =
    record { title = codes "DAY"; place = left 10; shown = λ line. line.day } ∷
    record { title = codes "REGS"; place = right 4; shown = λ line. line.regulations } ∷
    record { title = codes "SLOTS"; place = right 5; shown = λ line. line.slots } ∷
    record { title = codes "GOVERNED"; place = right 8; shown = λ line. line.governed } ∷
    record { title = codes "ISSUED"; place = right 6; shown = λ line. line.issued } ∷
    record { title = codes "FORCED"; place = right 6; shown = λ line. line.forced } ∷
    record { title = codes "OVER"; place = right 4; shown = λ line. line.over } ∷
    record { title = codes "DELAY"; place = right 8; shown = λ line. line.delay } ∷
    record { title = codes "MEAN"; place = right 5; shown = λ line. line.mean } ∷
    record { title = codes "LONGEST"; place = right 7; shown = λ line. line.longest } ∷ []

-- the figures of a day
abbrev pub figures : Text → Totals → TotalsLine
figures day t = record {
  day = day;
  regulations = decimal t.regulations;
  slots = decimal t.cost.slots;
  governed = decimal t.cost.governed;
  issued = decimal t.cost.issued;
  forced = decimal t.cost.forced;
  over = decimal t.cost.over;
  delay = decimal t.cost.delay;
  mean = number_text (mean_delay t.cost);
  longest = decimal t.cost.longest;
}

-- by how much each of them changes from one day to the other
abbrev pub changes : Totals → Totals → TotalsLine
changes from to = record {
  day = codes "difference";
  regulations = change_text from.regulations to.regulations;
  slots = change_text from.cost.slots to.cost.slots;
  governed = change_text from.cost.governed to.cost.governed;
  issued = change_text from.cost.issued to.cost.issued;
  forced = change_text from.cost.forced to.cost.forced;
  over = change_text from.cost.over to.cost.over;
  delay = change_text from.cost.delay to.cost.delay;
  mean = change_or_hyphen (mean_delay from.cost) (mean_delay to.cost);
  longest = change_text from.cost.longest to.cost.longest;
}

-- the titles, the figures of each day, and the changes from the first to the second
abbrev pub totals_table : Totals → Totals → Text
totals_table base variant =
    titles totals_columns ++ (shown_line totals_columns (figures (codes "base") base)
    ++ (shown_line totals_columns (figures (codes "variant") variant) ++ shown_line totals_columns (changes base variant)))

-- of a flight its key, and how it stands on each day
abbrev pub flight_columns : List (Column Difference)
flight_columns =
    record { title = codes "KEY"; place = left 10; shown = λ flight. flight.key } ∷
    record { title = codes "BASE"; place = left 10; shown = λ flight. name_text (reg_in flight.base) } ∷
    record { title = codes "CTOT"; place = left 4; shown = λ flight. time_text (ctot_in flight.base) } ∷
    record { title = codes "DELAY"; place = right 6; shown = λ flight. number_text (delay_in flight.base) } ∷
    record { title = codes "VARIANT"; place = left 10; shown = λ flight. name_text (reg_in flight.variant) } ∷
    record { title = codes "CTOT"; place = left 4; shown = λ flight. time_text (ctot_in flight.variant) } ∷
    record { title = codes "DELAY"; place = right 6; shown = λ flight. number_text (delay_in flight.variant) } ∷ []

-- inner: a regulation in its column
abbrev pub reg_column : Option Text → Text
reg_column reg = left 10 (name_text reg) ++ 32 ∷ []

-- inner: a calculated take-off time in its column
abbrev pub ctot_column : Option ℕ → Text
ctot_column ctot = left 4 (time_text ctot) ++ 32 ∷ []

-- inner: how a flight stands, in the three columns of a day
abbrev pub standing_columns : Option Standing → ℕ → Text
standing_columns standing end =
    reg_column (reg_in standing) ++ (ctot_column (ctot_in standing) ++ (right 6 (number_text (delay_in standing)) ++ end ∷ []))

-- the heading with the date, the totals, and the flights that do not stand alike, if there are any
abbrev pub compare_text : Date → Comparison → Text
compare_text day found = day_line day ++ (totals_table found.base found.variant ++ section flight_columns found.flights)
