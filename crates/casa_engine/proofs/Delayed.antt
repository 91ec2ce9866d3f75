use Rattle.std.proofs.Common.{◌≡◌, ℕ, ◌+◌, ◌-◌, List, [], ◌∷◌, ◌++◌, length, map, take, filter, Option, Some, None, refl, sym, ap, ◌∙◌, length-append, arith, rules}
use Rattle.std.proofs.Math.Seq.{take-append_seam}
use Rattle.std.proofs.lemmas.List.Sums.{sum_by-cons, sum_by-append}
use Rattle.std.proofs.lemmas.List.{length-map}
use Rattle.std.proofs.lemmas.Option.{slice_get_within, get_or_from_slice_get}
use Rattle.std.specs.List.{sum_by, filter_map, slice_get, Contains}
use Rattle.std.specs.Option.{option_map, option_map_or}
use Rattle.casa_flight.specs.declared.comp.Comp.{Comp}
use Rattle.casa_flight.specs.declared.comp.Assigned.{Assigned}
use Rattle.casa_flight.specs.declared.row.Stance.{Stance}
use Rattle.casa_flight.specs.declared.row.Stance.TheVariants.{Competing, Issued, Forced}
use Rattle.casa_filing.specs.Text.{Text}
use Rattle.casa_flight.specs.Good.{AreInOrder}
use Rattle.casa_flight.specs.Listing.{Listing, is_before, competitor, competitors, places, stance_of, delay_in}
use Rattle.casa_slots.specs.declared.standing.Standing.{Standing}
use Rattle.casa_slots.specs.declared.standing.Standing.TheVariants.{Pre, Issued as IssuedAt}
use Rattle.casa_list.specs.Standings.{issued_flight, is_flight_before, issued_flights, forced_flights, standings, standing_as, count_governed, governed_cto}
use Rattle.casa_list.proofs.Changes.{comps-places}
use Rattle.casa_list.proofs.Once.{standings_who}
use Rattle.casa_engine.specs.Delays.{is_governed, delays, delay_at}
use Rattle.casa_engine.proofs.Sums.{sum_by-map, sum_by-in_order}

-- the time over of a flight that is told
abbrev told_eto : Option (Comp × Standing) → ℕ
told_eto (Some f) = f.0.eto
told_eto None = 0

-- the delay of a flight that is told is its calculated less its estimated time over, by how the flight stands
pub told_delay : (l : Listing) (f : Comp × Standing) (o : Option Stance) → stance_of l f.0.key ≡ o
    → option_map (standing_as l f.0.key) o ≡ Some f
    → option_map_or (λ (cto : ℕ). cto - f.0.eto) (governed_cto l f.0.key) 0 ≡ delay_in l f.0.key
told_delay l f None stands is = search (rules, is)
told_delay l f (Some (Competing eto)) stands is =
    let planned : eto ≡ f.0.eto = ap told_eto is in
    rw (stands, planned) refl
told_delay l f (Some (Issued eto cto)) stands is =
    let planned : eto ≡ f.0.eto = ap told_eto is in
    rw (stands, planned) refl
told_delay l f (Some (Forced eto)) stands is = rw stands (omega arith)

-- the delay of flight number n that is told
pub nth_delay : (l : Listing) (n : ℕ) (f : Comp × Standing) → AreInOrder l.flights → slice_get (standings l) n ≡ Some f
    → option_map_or (λ (cto : ℕ). cto - f.0.eto) (governed_cto l f.0.key) 0 ≡ delay_at l n
nth_delay l n f sorted found =
    let there : Contains (standings l) f =
    (n, slice_get_within (standings l) n f found, get_or_from_slice_get (standings l) n f f found) in
    told_delay l f (stance_of l f.0.key) refl ((standings_who l f sorted).0 there)
    ∙ sym (ap (λ (o : Option (Comp × Standing)). option_map_or (λ (g : Comp × Standing). delay_in l g.0.key) o 0) found)

-- a flight that is governed is a competitor or issued
governed_either : (g : Text → ℕ) (es : List (Text × Stance))
    → sum_by (λ (c : Comp). g c.key) (filter_map (λ (e : Text × Stance). competitor e.0 e.1) es)
    + sum_by (λ (f : Comp × Standing). g f.0.key) (filter_map (λ (e : Text × Stance). issued_flight e.0 e.1) es)
    ≡ sum_by (λ (e : Text × Stance). g e.0) (filter (λ (e : Text × Stance). is_governed e.1) es)
governed_either g [] = refl
governed_either g ((key, Competing eto) ∷ es) =
    let cs : List Comp = filter_map (λ (e : Text × Stance). competitor e.0 e.1) es in
    let gs : List (Text × Stance) = filter (λ (e : Text × Stance). is_governed e.1) es in
    omega (
      arith,
      governed_either g es,
      sum_by-cons (λ (c : Comp). g c.key) (record { eto = eto; key = key }) cs,
      sum_by-cons (λ (e : Text × Stance). g e.0) (key, Competing eto) gs,
    )
governed_either g ((key, Issued eto cto) ∷ es) =
    let fs : List (Comp × Standing) = filter_map (λ (e : Text × Stance). issued_flight e.0 e.1) es in
    let gs : List (Text × Stance) = filter (λ (e : Text × Stance). is_governed e.1) es in
    omega (
      arith,
      governed_either g es,
      sum_by-cons (λ (f : Comp × Standing). g f.0.key) (record { eto = eto; key = key }, IssuedAt cto) fs,
      sum_by-cons (λ (e : Text × Stance). g e.0) (key, Issued eto cto) gs,
    )
governed_either g ((key, Forced eto) ∷ es) = governed_either g es

-- the competitors as they are told
abbrev told_competitors : Listing → List (Comp × Standing)
told_competitors l = map (λ (a : Assigned). (a.comp, Pre a.place)) (places l)

told_first : (l : Listing) → take (count_governed l) (standings l) ≡ told_competitors l ++ issued_flights l
told_first l =
    let fs : List (Comp × Standing) = told_competitors l in
    let gs : List (Comp × Standing) = issued_flights l in
    let competitors_are : length (competitors l) ≡ length fs =
    ap length (sym (comps-places l)) ∙ length-map (places l) (λ (a : Assigned). a.comp)
    ∙ sym (length-map (places l) (λ (a : Assigned). (a.comp, Pre a.place))) in
    let count : count_governed l ≡ length (fs ++ gs) =
    ap (λ (n : ℕ). n + length gs) competitors_are ∙ sym (length-append fs gs) in
    ap (λ (n : ℕ). take n (fs ++ gs ++ forced_flights l)) count ∙ take-append_seam (fs ++ gs) (forced_flights l)

-- the flights that are told first are the governed ones, and their delays are those of the list
pub governed_delays : (l : Listing)
    → sum_by (λ (f : Comp × Standing). delay_in l f.0.key) (take (count_governed l) (standings l)) ≡ delays l
governed_delays l =
    let of_told : Comp × Standing → ℕ = λ f. delay_in l f.0.key in
    let of_comp : Comp → ℕ = λ c. delay_in l c.key in
    let cs : List Comp = filter_map (λ (e : Text × Stance). competitor e.0 e.1) l.flights in
    let fs : List (Comp × Standing) = filter_map (λ (e : Text × Stance). issued_flight e.0 e.1) l.flights in
    let first : sum_by of_told (take (count_governed l) (standings l)) ≡ sum_by of_told (told_competitors l ++ issued_flights l) =
    ap (sum_by of_told) (told_first l) in
    let places_are : sum_by of_told (told_competitors l) ≡ sum_by of_comp cs =
    sum_by-map of_told (λ (a : Assigned). (a.comp, Pre a.place)) (places l)
    ∙ sym (sum_by-map of_comp (λ (a : Assigned). a.comp) (places l))
    ∙ ap (sum_by of_comp) (comps-places l) ∙ sum_by-in_order of_comp is_before cs in
    let issued_are : sum_by of_told (issued_flights l) ≡ sum_by of_told fs = sum_by-in_order of_told is_flight_before fs in
    omega (
      arith,
      first,
      sum_by-append of_told (told_competitors l) (issued_flights l),
      places_are,
      issued_are,
      governed_either (delay_in l) l.flights,
    )
