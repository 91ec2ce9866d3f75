-- inner contracts: how many issued flights lie in each slot
use Rattle.std.specs.Prelude.{ℕ, ◌+◌, ◌-◌, List, map, Option, None, Some, count_by}
use Rattle.std.specs.List.{slice_get, filter_map, slice_set}
use Rattle.std.specs.Option.{option_map_or}
use Rattle.casa_grid.specs.declared.slot.Window.{Window}
use Rattle.casa_grid.specs.Slots.{is_within}
use Rattle.casa_flight.specs.declared.comp.Comp.{Comp}
use Rattle.casa_slots.specs.declared.standing.Standing.{Standing}
use Rattle.casa_slots.specs.declared.standing.Standing.TheVariants.{Pre, Issued, Forced}
use Rattle.casa_flight.specs.Assignment.{Occupancy}

-- of each window, how many of these times lie in it
abbrev pub counts : List Window → List ℕ → List ℕ
counts ws times = map (λ (w : Window). count_by (λ t. is_within t w) times) ws

-- how many issued flights lie in each slot
abbrev pub issued_counts : Occupancy → List ℕ
issued_counts o = counts o.slots o.issued

-- one more flight, and one less, in the slot of this number
abbrev pub raised : List ℕ → Option ℕ → List ℕ
raised blocked None = blocked
raised blocked (Some k) = slice_set blocked k (option_map_or (λ (n : ℕ). n + 1) (slice_get blocked k) 0)

abbrev pub lowered : List ℕ → Option ℕ → List ℕ
lowered blocked None = blocked
lowered blocked (Some k) = slice_set blocked k (option_map_or (λ (n : ℕ). n - 1) (slice_get blocked k) 0)

-- the time at which a flight is issued that stands so
abbrev pub time_of : Standing → Option ℕ
time_of (Pre place) = None
time_of (Issued cto) = Some cto
time_of Forced = None

abbrev pub times_in : List (Comp × Standing) → List ℕ
times_in flights = filter_map (λ (f : Comp × Standing). time_of f.1) flights
