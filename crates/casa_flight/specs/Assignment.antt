-- to believe: first planned, first served
use Rattle.std.specs.Prelude.{◌≡◌, ℕ, ◌<◌, List, [], ◌∷◌, ◌++◌, length, Bool, true, false, not, ◌&&◌, ◌==◌, nat_lt, nat_le, Option, None, Some}
use Rattle.std.specs.Option.{option_map_or}
use Rattle.std.specs.List.{range_with_len, slice_get, list_any, find}
use Rattle.casa_grid.specs.declared.slot.Window.{Window}
use Rattle.casa_grid.specs.declared.slot.Place.{Place}
use Rattle.casa_grid.specs.declared.slot.Place.TheVariants.{Slot, Over}
use Rattle.casa_grid.specs.Slots.{wanted, is_within}
use Rattle.casa_flight.specs.declared.comp.Comp.{Comp}
use Rattle.casa_flight.specs.declared.comp.Assigned.{Assigned}

-- what the competitors of a regulation meet: its slots, and the calculated times over of the flights issued there
pub record Occupancy : Type 0 where
  pub slots : List Window
  pub issued : List ℕ

-- a slot is blocked if the calculated time over of an issued flight lies in its window (profile)
abbrev pub is_blocked : Occupancy → ℕ → Bool
is_blocked o k = option_map_or (λ (w : Window). list_any (λ t. is_within t w) o.issued) (slice_get o.slots k) false

-- whether slot k is the asked one or a later one
abbrev pub is_from : Option ℕ → ℕ → Bool
is_from None k = false
is_from (Some asked) k = nat_le asked k

-- slot k is open to a flight with this time over: from the slot that it asks for, and not blocked
abbrev pub is_open : Occupancy → ℕ → ℕ → Bool
is_open o eto k = nat_lt k (length o.slots) && (is_from (wanted o.slots eto) k && not (is_blocked o k))

abbrev pub is_slot : ℕ → Place → Bool
is_slot k Over = false
is_slot k (Slot j) = k == j

-- whether one of these competitors has slot k
abbrev pub is_taken : List Assigned → ℕ → Bool
is_taken earlier k = list_any (λ (a : Assigned). is_slot k a.place) earlier

-- every slot that is open to the flight, up to before this one, is the slot of an earlier competitor
abbrev pub AreTaken : Occupancy → List Assigned → ℕ → ℕ → Type 0
AreTaken o earlier eto bound = (k : ℕ) → k < bound → is_open o eto k ≡ true → is_taken earlier k ≡ true

-- the place of a competitor is right beside those of the earlier ones: a slot that is open to it and that none of them
-- has, all open ones before it being theirs; or over, all open ones being theirs
abbrev pub IsServed : Occupancy → List Assigned → ℕ → Place → Type 0
IsServed o earlier eto (Slot k) = (is_open o eto k ≡ true) × (is_taken earlier k ≡ false) × AreTaken o earlier eto k
IsServed o earlier eto Over = AreTaken o earlier eto (length o.slots)

-- first planned, first served (manual): however the competitors are cut, in their order, at one of them, its place is
-- right beside those of the ones before it
abbrev pub IsRight : Occupancy → List Assigned → Type 0
IsRight o all =
    (before : List Assigned) (a : Assigned) (after : List Assigned) →
    all ≡ before ++ a ∷ after → IsServed o before a.comp.eto a.place

abbrev pub place_from : Option ℕ → Place
place_from None = Over
place_from (Some k) = Slot k

abbrev pub is_free : Occupancy → List Assigned → ℕ → ℕ → Bool
is_free o earlier eto k = is_open o eto k && not (is_taken earlier k)

-- the earliest open slot that no earlier competitor has
abbrev pub place_after : Occupancy → List Assigned → ℕ → Place
place_after o earlier eto = place_from (find (is_free o earlier eto) (range_with_len 0 (length o.slots)))

abbrev pub assigned_after : Occupancy → List Assigned → List Comp → List Assigned
assigned_after o earlier [] = []
assigned_after o earlier (c ∷ cs) =
    let this : Assigned = record { comp = c; place = place_after o earlier c.eto } in
    this ∷ assigned_after o (earlier ++ this ∷ []) cs

-- the assignment of these competitors, in their order; a law says that it is the one that is right
abbrev pub assignment : Occupancy → List Comp → List Assigned
assignment o comps = assigned_after o [] comps

-- the slot of an earlier competitor is below that of a later one, and behind one that is over all are over
abbrev pub Precedes : Place → Place → Type 0
Precedes (Slot j) (Slot k) = j < k
Precedes Over (Slot k) = ⊥
Precedes p Over = Unit {0}
