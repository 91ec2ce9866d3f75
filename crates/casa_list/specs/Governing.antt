-- inner contracts: the flights that a regulation governs, as a list keeps them
use Rattle.std.specs.Prelude.{ℕ, ◌≤◌, List, length, map, take, drop}
use Rattle.std.specs.List.{All}
use Rattle.casa_flight.specs.declared.comp.Comp.{Comp}
use Rattle.casa_flight.specs.declared.comp.Assigned.{Assigned}
use Rattle.casa_slots.specs.declared.standing.Standing.{Standing}
use Rattle.casa_slots.specs.declared.standing.Standing.TheVariants.{Pre}
use Rattle.casa_slots.specs.Seat.{HoldsTime, issued_in}

-- the flights that a regulation governs: its competitors in their places and its issued flights; and for how many there is
-- room in all
pub record Governing : Type 0 where
  pub competitors : List Assigned
  pub issued : List (Comp × Standing)
  pub room : ℕ

-- how a competitor stands, in its place
abbrev pub pre_in : Assigned → Comp × Standing
pre_in a = (a.comp, Pre a.place)

-- the seats of so many competitors, and behind them those of the issued flights
abbrev pub governing : ℕ → List Assigned → ℕ → Governing
governing n seats room = record { competitors = take n seats; issued = map issued_in (drop n seats); room = room }

pub record AreGoverning (n : ℕ) (seats : List Assigned) : Type 0 where
  pub within : n ≤ length seats
  pub times : All HoldsTime (drop n seats)
