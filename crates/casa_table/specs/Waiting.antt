-- inner contracts: which flights wait for their issue, by an index
use Rattle.std.specs.Prelude.{◌≡◌, ℕ, List, map, Bool, true, not, ◌&&◌, ◌==◌, Option, None, Some, is_some}
use Rattle.std.specs.Prelude.{if◌then◌else◌}
use Rattle.std.specs.List.{list_any, filter}
use Rattle.std.specs.BTreeMap.{is_at}
use Rattle.casa_time.specs.Due as due
use Rattle.casa_flight.specs.declared.row.Row.{Row}
use Rattle.casa_filing.specs.Text.{Text}
use Rattle.casa_flight.specs.Entry.{is_to_issue}
use Rattle.casa_table.specs.declared.flights.Departure.{Departure}
use Rattle.casa_table.specs.contracts.flights.DepartureOrd.TheImpl.{ghosts as departures}

-- the off-block time of a flight, if it is one of these
abbrev pub due_row : ℕ → Row → Option ℕ
due_row at row = if is_to_issue at row then Some row.plan.eobt else None

-- a flight waits for its issue: it is governed and not issued; `is_to_issue` adds that it is due
abbrev pub is_waiting : Row → Bool
is_waiting row = is_some row.governing && not (is_some row.issued)

abbrev pub is_waiting_at : ℕ → Row → Bool
is_waiting_at eobt row = is_waiting row && (row.plan.eobt == eobt)

-- the departure of a flight, and whether a departure is among these
abbrev pub departure : Text → Row → Departure
departure key row = record { eobt = row.plan.eobt; key = key }

abbrev pub has_departure : List Departure → Departure → Bool
has_departure ds d = list_any (is_at (departures.cmp d)) ds

-- each flight that waits is among the departures; these may have others
abbrev pub HaveWaiting : (Text → Option Row) → List Departure → Type 0
HaveWaiting row_at ds =
    (key : Text) (row : Row) → row_at key ≡ Some row → is_waiting row ≡ true
    → has_departure ds (departure key row) ≡ true

-- the keys of the departures that are due
abbrev pub due_names : ℕ → List Departure → List Text
due_names at ds = map (λ (d : Departure). d.key) (filter (λ (d : Departure). due.is_due at d.eobt) ds)
