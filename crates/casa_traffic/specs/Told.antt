-- to believe: what is told of files of traffic
use Rattle.std.specs.Prelude.{◌≡◌, ℕ, Bool, ◌&&◌, ◌==◌, List, [], ◌∷◌, length, flat_map, codes, decimal, Option, None, Some, slice_get}
use Rattle.std.specs.List.{concat}
use Rattle.std.specs.Option.{option_map_or}
use Rattle.casa_filing.specs.Text.{Text}
use Rattle.casa_import.specs.Reasons.{column_of, name_of}
use Rattle.casa_import.specs.declared.reason.LeftOut.{LeftOut}
use Rattle.casa_traffic.specs.declared.making.Made.{Made}
use Rattle.casa_traffic.specs.declared.sheets.Sheet.{Sheet}
use Rattle.casa_traffic.specs.declared.sheets.Sheets.{Sheets}
use Rattle.casa_traffic.specs.Titles.{Header}

-- what stands before the title of a column, where there is one, and this title
abbrev pub gap : Option ℕ → Text
gap None = []
gap (Some column) = codes " "

abbrev pub title_at : Header → Option ℕ → Text
title_at header None = []
title_at header (Some column) = option_map_or (λ title. title.items) (slice_get header column) []

-- a row that is left out: the file, its line, the reason and the column of that
abbrev pub row_line : Sheet → LeftOut → Text
row_line sheet l = concat (
    codes "casa: " ∷ sheet.name.now ∷ codes ":" ∷ decimal l.line ∷ codes ": " ∷ name_of l.reason
    ∷ gap (column_of l.reason) ∷ title_at sheet.table.header.items (column_of l.reason) ∷ codes "\n" ∷ [])

-- those of a file that is given
abbrev pub row_lines : Option Sheet → List LeftOut → Text
row_lines None left_out = []
row_lines (Some sheet) left_out = flat_map (row_line sheet) left_out

-- the figures of the files: how many rows there are, what they make, and how many are left out
abbrev pub rows_of : Sheet → Text
rows_of sheet = decimal (length sheet.table.rows.items)

abbrev pub regulation_figures : Made → Sheet → Text
regulation_figures made sheet = concat (
    codes "casa: " ∷ sheet.name.now ∷ codes ": " ∷ rows_of sheet ∷ codes " rows, "
    ∷ decimal (length made.regulations.openings.items) ∷ codes " regulations, "
    ∷ decimal (length made.regulations.left_out.items) ∷ codes " left out\n" ∷ [])

abbrev pub crossing_figures : Made → Sheet → Text
crossing_figures made sheet = concat (
    codes "casa: " ∷ sheet.name.now ∷ codes ": " ∷ rows_of sheet ∷ codes " rows, "
    ∷ decimal (length made.crossings.left_out.items) ∷ codes " left out, "
    ∷ decimal made.crossings.of_no_flight ∷ codes " of no flight, "
    ∷ decimal made.crossings.entered_again ∷ codes " entered again\n" ∷ [])

abbrev pub flight_figures : Made → Sheet → Text
flight_figures made sheet = concat (
    codes "casa: " ∷ sheet.name.now ∷ codes ": " ∷ rows_of sheet ∷ codes " rows, "
    ∷ decimal (length made.filings.plans.items) ∷ codes " filings, "
    ∷ decimal (length made.filings.left_out.items) ∷ codes " left out\n" ∷ [])

abbrev pub figures : (Sheet → Text) → Option Sheet → Text
figures line sheet = option_map_or line sheet []

-- the rows that are left out, in the order regulations, crossings, flights, and then the figures of each file
abbrev pub told : Sheets → Made → Text
told sheets made = concat (
    row_lines sheets.regs made.regulations.left_out.items
    ∷ row_lines sheets.crossings made.crossings.left_out.items
    ∷ row_lines sheets.flights made.filings.left_out.items
    ∷ figures (regulation_figures made) sheets.regs
    ∷ figures (crossing_figures made) sheets.crossings
    ∷ figures (flight_figures made) sheets.flights ∷ [])

-- whether no row of any file is left out
abbrev pub is_whole : Made → Bool
is_whole made =
    (length made.regulations.left_out.items == 0)
    && ((length made.crossings.left_out.items == 0) && (length made.filings.left_out.items == 0))
