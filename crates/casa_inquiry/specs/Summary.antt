-- to believe: what regulations cost: flights by how they stand in the lists, and the delays of the governed ones
use Rattle.std.specs.Prelude.{ℕ, ◌+◌, ◌-◌, ◌≤◌, ◌/◌, ◌==◌, ◌&&◌, List, length, map, filter, fold, max, Bool, true, false, cond, not, is_some, Option, Some, None, if◌then◌else◌}
use Rattle.std.specs.List.{flat_map, sum_by}
use Rattle.casa_flight.specs.declared.reply.Kind.{Kind}
use Rattle.casa_flight.specs.declared.reply.Kind.TheVariants.{Pre, Issued, Forced}
use Rattle.casa_flight.specs.declared.reply.ListReply.{ListReply}
use Rattle.casa_flight.specs.declared.reply.ListRow.{ListRow}
use Rattle.casa_filing.specs.declared.regulation.Measure.{Measure}
use Rattle.casa_flight.specs.declared.row.Stance.{Stance}
use Rattle.casa_flight.specs.declared.state.State.{State}
use Rattle.casa_filing.specs.Text.{Text}
use Rattle.casa_flight.specs.Listing.{Listing, delay_in, listing}
use Rattle.casa_flight.specs.Replies.{kind_of, list_reply, row_in}
use Rattle.casa_flight.specs.State.{empty}
use Rattle.casa_filing.specs.Subject.{regulation}
use Rattle.casa_inquiry.specs.declared.summary.Cost.{Cost}
use Rattle.casa_inquiry.specs.declared.summary.GovernedFlight.{GovernedFlight}

-- whether a flight that a list shows so is governed by the list's regulation
abbrev pub governs : Kind → Bool
governs Pre = true
governs Issued = true
governs Forced = false

-- whether it is issued there
abbrev pub issues : Kind → Bool
issues Pre = false
issues Issued = true
issues Forced = false

abbrev pub is_governed : ListRow → Bool
is_governed row = governs row.kind

abbrev pub is_issued : ListRow → Bool
is_issued row = issues row.kind

-- a forced flight is subject to the regulation, and not governed by it
abbrev pub is_forced : ListRow → Bool
is_forced row = not (governs row.kind)

-- for a governed flight no slot is left
abbrev pub is_over : ListRow → Bool
is_over row = governs row.kind && not (is_some row.slot)

-- how many rows are so
abbrev pub count : (ListRow → Bool) → List ListRow → ℕ
count is_so rows = length (filter is_so rows)

-- the delay of a row's flight there: calculated less estimated time over
abbrev pub delay : ListRow → ℕ
delay row = row.cto - row.eto

-- the delays of the governed flights
abbrev pub governed_delays : List ListRow → List ℕ
governed_delays rows = map delay (filter is_governed rows)

-- the greatest of some numbers, and 0 of none
abbrev pub greatest : List ℕ → ℕ
greatest ns = fold max 0 ns

-- what so many slots cost the flights in these rows
abbrev pub cost : ℕ → List ListRow → Cost
cost slots rows = record {
  slots = slots;
  governed = count is_governed rows;
  issued = count is_issued rows;
  forced = count is_forced rows;
  over = count is_over rows;
  delay = sum_by delay (filter is_governed rows);
  longest = greatest (governed_delays rows);
}

-- the rows of several lists, one list after the other
abbrev pub rows_of : List ListReply → List ListRow
rows_of lists = flat_map (λ (list : ListReply). list.rows) lists

-- the delays of all flights that their regulations govern, added up
abbrev pub total_delay : List ListReply → ℕ
total_delay lists = sum_by delay (filter is_governed (rows_of lists))

-- the list of each open regulation as `list` tells it, in the order of their identifiers
abbrev pub lists_told : State → List ListReply
lists_told m = map (λ (e : Text × Measure). list_reply m (regulation e.0 e.1) (listing m.rows e.0 e.1)) m.regs

-- inner: the delays that the flights have that a list's regulation governs, added up
abbrev pub delays_in : Listing → ℕ
delays_in l = sum_by (λ (e : Text × Stance). delay_in l e.0) (filter (λ (e : Text × Stance). governs (kind_of e.1)) l.flights)

-- what a regulation costs, by its list, and what several cost together, by theirs
abbrev pub cost_of : ListReply → Cost
cost_of list = cost list.slots list.rows

abbrev pub cost_of_all : List ListReply → Cost
cost_of_all lists = cost (sum_by (λ (list : ListReply). list.slots) lists) (rows_of lists)

-- the mean delay of the governed flights, rounded down to whole seconds; none where there is no such flight
abbrev pub mean_delay : Cost → Option ℕ
mean_delay cost = if cost.governed == 0 then None else Some (cost.delay / cost.governed)

-- inner: a flight of a list as its reply shows it in the empty state: but for the time of a forced one, as in any
abbrev pub row_told : Listing → Text × Stance → ListRow
row_told l e = row_in empty l e.0 e.1

-- inner: what of a row counts, if its flight is governed
abbrev pub governed_as : ListRow → Option GovernedFlight
governed_as row =
    if is_governed row then Some (record { issued = issues row.kind; over = not (is_some row.slot); delay = delay row }) else None

-- inner: what a regulation costs with one flight more, governed or forced
abbrev pub with_flight : Cost → Option GovernedFlight → Cost
with_flight cost None = record cost { forced = cost.forced + 1 }
with_flight cost (Some flight) = record cost {
  governed = cost.governed + 1;
  issued = cost.issued + cond flight.issued 1 0;
  over = cost.over + cond flight.over 1 0;
  delay = cost.delay + flight.delay;
  longest = max cost.longest flight.delay;
}

-- inner: each number of slots and flights is at most this
pub record AreAtMost (most : ℕ) (cost : Cost) : Type 0 where
  pub slots : cost.slots ≤ most
  pub governed : cost.governed ≤ most
  pub issued : cost.issued ≤ most
  pub forced : cost.forced ≤ most
  pub over : cost.over ≤ most
