-- to believe: the rows of lists, and their order by delay
use Rattle.std.specs.Prelude.{ℕ, ◌-◌, List, [], ◌∷◌, map, Bool, nat_lt}
use Rattle.std.specs.List.{flat_map}
use Rattle.casa_flight.specs.declared.reply.ListReply.{ListReply}
use Rattle.casa_flight.specs.declared.reply.ListRow.{ListRow}
use Rattle.casa_flight.specs.Listing.{insert_sorted}
use Rattle.casa_selection.specs.declared.rows.ReportRow.{ReportRow}

-- the rows of a list, each with the list's regulation
abbrev pub rows_in : ListReply → List ReportRow
rows_in list = map (λ (row : ListRow). record { reg = list.reg; row = row }) list.rows

-- the rows of several lists, one list behind the other
abbrev pub rows_in_all : List ListReply → List ReportRow
rows_in_all lists = flat_map rows_in lists

-- for how long a flight is delayed in its list
abbrev pub delay_in_list : ListRow → ℕ
delay_in_list row = row.cto - row.eto

abbrev pub waits_longer : ReportRow → ReportRow → Bool
waits_longer a b = nat_lt (delay_in_list b.row) (delay_in_list a.row)

-- the longest delay first, and rows of equal delay as they stood: each row stands before the first one of those behind it
-- that waits no longer
abbrev pub by_delay : List ReportRow → List ReportRow
by_delay [] = []
by_delay (row ∷ rows) = insert_sorted waits_longer row (by_delay rows)
