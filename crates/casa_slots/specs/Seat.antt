-- inner contracts: the number by which a place is kept
use Rattle.std.specs.Prelude.{◌≡◌, ℕ, ◌≤◌, ◌==◌, true, false, refl, if◌then◌else◌}
use Rattle.std.proofs.Common.{sym}
use Rattle.std.proofs.lemmas.Bool.{eqb-true}
use Rattle.std.below.core.specs.declared.int.u32.TheConstants.{MAX}
use Rattle.casa_grid.specs.declared.slot.Place.{Place}
use Rattle.casa_grid.specs.declared.slot.Place.TheVariants.{Slot, Over}
use Rattle.casa_time.specs.Moment.{last_moment}
use Rattle.casa_flight.specs.declared.comp.Comp.{Comp}
use Rattle.casa_flight.specs.declared.comp.Assigned.{Assigned}
use Rattle.casa_slots.specs.declared.standing.Standing.{Standing}
use Rattle.casa_slots.specs.declared.standing.Standing.TheVariants.{Issued}
use Rattle.casa_slots.specs.declared.seat.Seat.TheInside.{Inside}

-- the place that a number stands for, that of its slot or, for the greatest, over; and the number of a place
abbrev pub place_of_number : ℕ → Place
place_of_number n = if n == MAX then Over else Slot n

abbrev pub number_of_place : Place → ℕ
number_of_place (Slot k) = k
number_of_place Over = MAX

-- how an issued flight stands that has a seat: with the number of its seat for its time
abbrev pub issued_in : Assigned → Comp × Standing
issued_in a = (a.comp, Issued (number_of_place a.place))

-- the number of a seat is a time
abbrev pub HoldsTime : Assigned → Type 0
HoldsTime a = number_of_place a.place ≤ last_moment

pub same_number : (n : ℕ) → number_of_place (place_of_number n) ≡ n
same_number n =
    elim (n == MAX) as (λ b. (n == MAX) ≡ b → number_of_place (if b then Over else Slot n) ≡ n) [
      | true ↦ λ is. sym (eqb-true n MAX is)
      | false ↦ λ is. refl
    ] refl

pub same_seat : (s : Inside) → Unit {0} → record { comp = s.comp; number = number_of_place (place_of_number s.number) } ≡ s
same_seat s h = λ i. record { comp = s.comp; number = same_number s.number i }
