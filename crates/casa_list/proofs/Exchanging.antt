-- two issued flights exchange their times
use Rattle.std.proofs.Common.{◌≡◌, ℕ, ◌+◌, List, length, set, Bool, true, false, ◌&&◌, cond, refl, sym, ◌∙◌, ap, arith, map, count_by, Option, Some}
use Rattle.std.specs.Option.{option_map_or}
use Rattle.std.specs.Ordering.{is_eq, is_lt, nat_cmp}
use Rattle.std.proofs.lemmas.Bool.{le-leb}
use Rattle.std.proofs.lemmas.List.{length-set}
use Rattle.std.proofs.lemmas.Map.Keys.{ge_from_not_lt}
use Rattle.casa_grid.specs.declared.slot.Window.{Window}
use Rattle.casa_grid.specs.Slots.{slots, is_within}
use Rattle.casa_flight.specs.declared.comp.Comp.{Comp}
use Rattle.casa_flight.specs.declared.row.Stance.{Stance}
use Rattle.casa_flight.specs.declared.row.Stance.TheVariants.{Issued}
use Rattle.casa_filing.specs.Text.{Text, without}
use Rattle.casa_flight.specs.Listing.{Listing, eto_as, issued_cto, competitors, occupancy, places, stance_of}
use Rattle.casa_filing.proofs.Entries.{text_cmp, same_name, at-put, sorted-put, put-put}
use Rattle.casa_laws.proofs.SwapPlaces.{places_exchanged}
use Rattle.casa_slots.specs.declared.standing.Standing.{Standing}
use Rattle.casa_slots.specs.declared.standing.Standing.TheVariants.{Issued as IssuedAt}
use Rattle.casa_list.specs.declared.standing.Times.{Times}
use Rattle.casa_slots.specs.Blocked.{issued_counts}
use Rattle.casa_list.specs.Kept.{Kept, IsKept}
use Rattle.casa_list.specs.Standings.{issued_flights, index_in, issued_times, can_exchange_at, can_exchange}
use Rattle.casa_slots.proofs.Rightly.{count_by-cons}
use Rattle.casa_list.proofs.Listed.{count_by-put}
use Rattle.casa_list.proofs.Changes.{with_flight, without_flight, competitors-put_other, issued-put, length-places}
use Rattle.casa_list.proofs.Keeping.{Out, out}
use Rattle.casa_list.proofs.Flights.{flight_set}

-- both are issued, and neither gets a time before its own
pub may_exchange : (l : Listing) (key other : Text) (one two : Times) → issued_times l key ≡ Some one → issued_times l other ≡ Some two →
    is_lt (nat_cmp two.cto one.eto) ≡ false → is_lt (nat_cmp one.cto two.eto) ≡ false → can_exchange l key other ≡ true
may_exchange l key other one two here there first second =
    (λ i. can_exchange_at (here i) (there i))
    ∙ (λ i. le-leb one.eto two.cto (ge_from_not_lt two.cto one.eto first) i && le-leb two.eto one.cto (ge_from_not_lt one.cto two.eto second) i)

-- a flight that is issued, issued at another time
abbrev pub reissued : Listing → Comp → ℕ → Listing
reissued l c cto = with_flight l c.key (Issued c.eto cto)

-- the list with it is the list without it, and it put in
put_anew : {l : Listing} {k : Kept} (c : Comp) (old new : ℕ) → IsKept l k → stance_of l c.key ≡ Some (Issued c.eto old) → reissued l c new ≡ reissued (without_flight l c.key) c new
put_anew {l} c old new h found =
    ap (λ (m : Listing). reissued m c new) (out c.key (Issued c.eto old) h found).is
    ∙ ap (λ es. record l { flights = es }) (put-put c.key (Issued c.eto old) (Issued c.eto new) (without l.flights c.key))

-- what is kept beside it: the flight stands where it stood, and only the counts of issued flights may change
pub kept_reissued : {l : Listing} {k : Kept} (c : Comp) (old new : ℕ) → IsKept l k → stance_of l c.key ≡ Some (Issued c.eto old) →
    let m : Listing = reissued l c new in
    IsKept m (record k { competitors = places m; issued = set k.issued (index_in k.issued c) (c, IssuedAt new); blocked = issued_counts (occupancy m) })
kept_reissued {l} {k} c old new h found =
    let was : Stance = Issued c.eto old in
    let now : Stance = Issued c.eto new in
    let m : Listing = reissued l c new in
    let less : Listing = without_flight l c.key in
    let o : Out l c.key was = out c.key was h found in
    let anew : m ≡ reissued less c new = put_anew c old new h found in
    let comps : competitors m ≡ competitors l = ap competitors anew ∙ competitors-put_other less c.key now refl o.none ∙ sym (ap competitors o.is ∙ competitors-put_other less c.key was refl o.none) in
    let many : length (places m) ≡ length k.competitors = length-places m ∙ ap length comps ∙ sym (ap length h.competitors_are ∙ length-places l) in
    let size : length (set k.issued (index_in k.issued c) (c, IssuedAt new)) ≡ length k.issued = length-set k.issued (index_in k.issued c) (c, IssuedAt new) in
    let room = h.room_is in
    record {
      keys = sorted-put c.key now l.flights h.keys;
      competitors_are = refl;
      issued_are =
          flight_set c (IssuedAt old) (IssuedAt new) k.issued (issued_flights less) (h.issued_are ∙ ap issued_flights o.is ∙ issued-put less c old o.none)
          ∙ sym (ap issued_flights anew ∙ issued-put less c new o.none);
      blocked_are = refl;
      room_is = omega (arith, many, size, room);
    }

-- the other one is still issued, even where it is the same flight
pub mate_there : (l : Listing) (a b : Comp) (c d : ℕ) → stance_of l a.key ≡ Some (Issued a.eto c) → stance_of l b.key ≡ Some (Issued b.eto d) → stance_of (reissued l a d) b.key ≡ Some (Issued b.eto d)
mate_there l a b c d here there =
    at-put b.key a.key (Issued a.eto d) l.flights
    ∙ (elim (is_eq (text_cmp b.key a.key)) as (λ t. is_eq (text_cmp b.key a.key) ≡ t → cond t (Some (Issued a.eto d)) (stance_of l b.key) ≡ Some (Issued b.eto d)) [
      | true ↦ λ t.
          let one : Some (Issued a.eto c) ≡ Some (Issued b.eto d) = sym here ∙ sym (ap (stance_of l) (same_name b.key a.key t)) ∙ there in
          ap (λ (w : Option Stance). Some (Issued (option_map_or eto_as w 0) d)) one
      | false ↦ λ t. there
    ] refl)

-- of the issued times that pass a test the old one is less and the new one is more
count_moved : {l : Listing} {k : Kept} (p : ℕ → Bool) (c : Comp) (old new : ℕ) → IsKept l k → stance_of l c.key ≡ Some (Issued c.eto old) →
    cond (p old) 1 0 + count_by p (occupancy (reissued l c new)).issued ≡ cond (p new) 1 0 + count_by p (occupancy l).issued
count_moved {l} p c old new h found =
    let less : Listing = without_flight l c.key in
    let o : Out l c.key (Issued c.eto old) = out c.key (Issued c.eto old) h found in
    let kind : Text × Stance → Option ℕ = λ e. issued_cto e.1 in
    let more : (cto : ℕ) → count_by p (occupancy (reissued less c cto)).issued ≡ cond (p cto) 1 0 + count_by p (occupancy less).issued =
    λ cto. count_by-put p kind c.key (Issued c.eto cto) cto refl less.flights o.none ∙ count_by-cons p cto (occupancy less).issued in
    let before : count_by p (occupancy l).issued ≡ cond (p old) 1 0 + count_by p (occupancy less).issued = ap (λ (m : Listing). count_by p (occupancy m).issued) o.is ∙ more old in
    let after : count_by p (occupancy (reissued l c new)).issued ≡ cond (p new) 1 0 + count_by p (occupancy less).issued =
    ap (λ (m : Listing). count_by p (occupancy m).issued) (put_anew c old new h found) ∙ more new in
    omega (arith, before, after)

-- so an exchange leaves as many issued flights in each slot
counts_exchanged : {l : Listing} {k : Kept} (a b : Comp) (c d : ℕ) → IsKept l k → stance_of l a.key ≡ Some (Issued a.eto c) → stance_of l b.key ≡ Some (Issued b.eto d) →
    issued_counts (occupancy (reissued (reissued l a d) b c)) ≡ issued_counts (occupancy l)
counts_exchanged {l} a b c d h here there =
    λ i. map (λ (w : Window). each (λ t. is_within t w) i) (slots l.profile)
  where
    each : (p : ℕ → Bool) → count_by p (occupancy (reissued (reissued l a d) b c)).issued ≡ count_by p (occupancy l).issued
    each p =
        let first = count_moved p a c d h here in
        let second = count_moved p b d c (kept_reissued a c d h here) (mate_there l a b c d here there) in
        omega (arith, first, second)

-- and nobody moves
pub exchange_moves_nobody : {l : Listing} {k : Kept} (a b : Comp) (c d : ℕ) → IsKept l k → stance_of l a.key ≡ Some (Issued a.eto c) → stance_of l b.key ≡ Some (Issued b.eto d) →
    places (reissued (reissued l a d) b c) ≡ places l
exchange_moves_nobody {l} a b c d h here there = places_exchanged l a.key b.key a.eto b.eto c d h.keys here there

-- the issued flights once one of them has another time, and once both have each the other's
abbrev pub set_issued : List (Comp × Standing) → Comp → ℕ → List (Comp × Standing)
set_issued fs c cto = set fs (index_in fs c) (c, IssuedAt cto)

pub kept_exchanged : {l : Listing} {k : Kept} (a b : Comp) (c d : ℕ) → IsKept l k → stance_of l a.key ≡ Some (Issued a.eto c) → stance_of l b.key ≡ Some (Issued b.eto d) →
    IsKept (reissued (reissued l a d) b c) (record k { issued = set_issued (set_issued k.issued a d) b c })
kept_exchanged {l} {k} a b c d h here there =
    let both = kept_reissued b d c (kept_reissued a c d h here) (mate_there l a b c d here there) in
    let stay = exchange_moves_nobody a b c d h here there in
    let many : length (places (reissued (reissued l a d) b c)) ≡ length k.competitors = ap length (stay ∙ sym h.competitors_are) in
    let room = both.room_is in
    record {
      keys = both.keys;
      competitors_are = h.competitors_are ∙ sym stay;
      issued_are = both.issued_are;
      blocked_are = h.blocked_are ∙ sym (counts_exchanged a b c d h here there);
      room_is = omega (arith, many, room);
    }
