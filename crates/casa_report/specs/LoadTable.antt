-- to believe: demand and capacity of a regulation, as a table with bars
use Rattle.std.specs.Prelude.{ℕ, ◌-◌, ◌*◌, ◌≤◌, List, [], ◌∷◌, ◌++◌, fold, min, max, replicate, codes, decimal, Option}
use Rattle.std.specs.List.{flat_map, join_with_byte}
use Rattle.std.specs.Option.{option_map_or}
use Rattle.std.specs.Int.{div_ceil}
use Rattle.jiff_core.specs.declared.civil.date.Date.{Date}
use Rattle.casa_time.specs.Hhmm.{hhmm}
use Rattle.casa_filing.specs.Text.{Text}
use Rattle.casa_inquiry.specs.declared.load.Step.{Step}
use Rattle.casa_report.specs.Columns.{Column, left, right, shown_line, titles}
use Rattle.casa_report.specs.Heading.{heading_line}

-- a bar of so many characters, and a line behind so many: what is behind the line is over capacity
abbrev pub bar : ℕ → ℕ → ℕ → Text
bar character long line =
    replicate (min long line) character ++ (replicate (line - long) 32 ++ 124 ∷ replicate (long - line) character)

-- a character stands for so many flights, the last one perhaps for fewer, and the line behind as many as there are slots
abbrev pub bar_of : ℕ → ℕ → ℕ → ℕ → Text
bar_of each character flights slots = bar character (div_ceil flights each) (div_ceil slots each)

-- no bar has more characters than this, and a line
abbrev pub longest_bar : ℕ
longest_bar = 44

-- the greatest number of all steps
abbrev pub greatest : List Step → ℕ
greatest steps = fold (λ n (s : Step). max n (max s.planned (max s.slots s.calculated))) 0 steps

-- for how many flights a character stands: for one if the bars are short enough then
abbrev pub each_of : List Step → ℕ
each_of steps = max 1 (div_ceil (greatest steps) longest_bar)

-- inner: whether no bar of a step is longer, where a character stands for so many flights
abbrev pub IsShort : ℕ → Step → Type 0
IsShort each s =
    (s.planned ≤ longest_bar * each) × (s.slots ≤ longest_bar * each) × (s.calculated ≤ longest_bar * each)

-- a time, or a hyphen where there is none
abbrev pub time_text : Option ℕ → Text
time_text time = option_map_or hhmm time (codes "-")

abbrev pub columns : ℕ → List (Column Step)
columns each =
    record { title = codes "FROM"; place = left 4; shown = λ s. hhmm s.span.from } ∷
    record { title = codes "TO"; place = left 4; shown = λ s. time_text s.span.until } ∷
    record { title = codes "PLANNED"; place = right 7; shown = λ s. decimal s.planned } ∷
    record { title = codes "SLOTS"; place = right 5; shown = λ s. decimal s.slots } ∷
    record { title = codes "CALCULATED"; place = right 10; shown = λ s. decimal s.calculated } ∷
    record { title = codes "FLIGHTS A CHARACTER: " ++ decimal each; place = λ text. text; shown = λ s. bar_of each 111 s.planned s.slots } ∷ []

abbrev pub planned_line : ℕ → Step → Text
planned_line each s = shown_line (columns each) s

-- the bar of what is calculated, below that of what is planned
abbrev pub calculated_line : ℕ → Step → Text
calculated_line each s = left 35 [] ++ (bar_of each 42 s.calculated s.slots ++ 10 ∷ [])

abbrev pub step_lines : ℕ → Step → Text
step_lines each s = planned_line each s ++ calculated_line each s

-- all flights and slots
abbrev pub sums_line : ℕ → ℕ → Text
sums_line flights slots =
    join_with_byte 32 (left 4 (codes "all") ∷ left 4 (codes "-") ∷ right 7 (decimal flights) ∷ right 5 (decimal slots) ∷ right 10 (decimal flights) ∷ []) ++ 10 ∷ []

-- the titles, the lines of each step, and the sums
abbrev pub load_table : List Step → ℕ → ℕ → Text
load_table steps flights slots =
    titles (columns (each_of steps)) ++ (flat_map (step_lines (each_of steps)) steps ++ sums_line flights slots)

-- the heading with the regulation and the day, and below it that table
abbrev pub load_text : Text → Date → List Step → ℕ → ℕ → Text
load_text reg day steps flights slots = heading_line reg day ++ load_table steps flights slots
