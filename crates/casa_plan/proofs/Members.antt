-- the flights of a list as they stand are its flights, each once, in another order
use Rattle.std.proofs.Common.{◌≡◌, ℕ, ◌+◌, ◌<◌, List, [], ◌∷◌, ◌++◌, length, length-append, append_assoc, get_or, take, map, arith, None, Option, refl, sym, ap, subst, ◌∙◌, Some, unwrap_or}
use Rattle.std.specs.Map.{keys_of}
use Rattle.std.specs.Option.{option_map}
use Rattle.std.specs.List.{AllByRecursion, Contains, cons_option, filter_map}
use Rattle.std.specs.List.Sorted.{IsPermutation}
use Rattle.std.proofs.Math.Seq.{take-append_seam}
use Rattle.std.proofs.lemmas.List.{append-nil, length-map, map-append, take_more}
use Rattle.std.proofs.lemmas.List.Elements.{filter_map-append}
use Rattle.std.proofs.lemmas.List.Sorted.{IsPermutation-refl, IsPermutation-sym, IsPermutation-trans, IsPermutation-cons, IsPermutation-middle, IsPermutation-append, IsPermutation-append_left, IsPermutation-append_right, IsPermutation-map}
use Rattle.casa_flight.specs.declared.comp.Comp.{Comp}
use Rattle.casa_flight.specs.declared.comp.Assigned.{Assigned}
use Rattle.casa_flight.specs.declared.row.Stance.{Stance}
use Rattle.casa_flight.specs.declared.row.Stance.TheVariants.{Competing, Issued, Forced}
use Rattle.casa_filing.specs.Text.{Text, at_name}
use Rattle.casa_flight.specs.Good.{AreInOrder}
use Rattle.casa_flight.specs.Listing.{Listing, is_before, competitor, competitors, places}
use Rattle.casa_filing.proofs.Entries.{all-each, each_found}
use Rattle.casa_flight.proofs.PutBy.{each_itself}
use Rattle.casa_slots.specs.declared.standing.Standing.{Standing}
use Rattle.casa_slots.specs.declared.standing.Standing.TheVariants.{Pre, Forced as NoSlot}
use Rattle.casa_list.specs.Standings.{issued_flight, forced_flight, is_flight_before, issued_flights, forced_flights, standings, standing_as, standing_of, count_governed}
use Rattle.casa_list.proofs.Changes.{comps-places, length-places}
use Rattle.casa_list.proofs.Once.{as_pre, standings_who}
use Rattle.casa_plan.specs.Rows.{flights_told}
use Rattle.casa_list.proofs.Ordered.{in_order_moved}

-- the keys of a list's flights, by how these stand
abbrev key_of : Comp × Standing → Text
key_of f = f.0.key

keys_parted : (es : List (Text × Stance)) → IsPermutation (keys_of es)
    (map (λ (c : Comp). c.key) (filter_map (λ (e : Text × Stance). competitor e.0 e.1) es)
    ++ map key_of (filter_map (λ (e : Text × Stance). issued_flight e.0 e.1) es)
    ++ map key_of (filter_map (λ (e : Text × Stance). forced_flight e.0 e.1) es))
keys_parted [] = IsPermutation-refl []
keys_parted ((key, Competing eto) ∷ es) = IsPermutation-cons key _ _ (keys_parted es)
keys_parted ((key, Issued eto cto) ∷ es) =
    let cs : List Text = map (λ (c : Comp). c.key) (filter_map (λ (e : Text × Stance). competitor e.0 e.1) es) in
    let gs : List Text = map key_of (filter_map (λ (e : Text × Stance). issued_flight e.0 e.1) es) in
    let fs : List Text = map key_of (filter_map (λ (e : Text × Stance). forced_flight e.0 e.1) es) in
    IsPermutation-trans _ _ _ (IsPermutation-cons key _ _ (keys_parted es))
    (IsPermutation-sym _ _ (IsPermutation-append_left fs _ _ (IsPermutation-middle cs key gs)))
keys_parted ((key, Forced eto) ∷ es) =
    let cs : List Text = map (λ (c : Comp). c.key) (filter_map (λ (e : Text × Stance). competitor e.0 e.1) es) in
    let gs : List Text = map key_of (filter_map (λ (e : Text × Stance). issued_flight e.0 e.1) es) in
    let fs : List Text = map key_of (filter_map (λ (e : Text × Stance). forced_flight e.0 e.1) es) in
    IsPermutation-trans _ _ _ (IsPermutation-cons key _ _ (keys_parted es)) (IsPermutation-sym _ _ (IsPermutation-middle (cs ++ gs) key fs))

keys-places : (ps : List Assigned) → map key_of (map (λ (a : Assigned). (a.comp, Pre a.place)) ps) ≡ map (λ (c : Comp). c.key) (map (λ (a : Assigned). a.comp) ps)
keys-places [] = refl
keys-places (a ∷ ps) = ap (λ (ks : List Text). a.comp.key ∷ ks) (keys-places ps)

keys_moved : (l : Listing) → IsPermutation (keys_of l.flights) (map key_of (standings l))
keys_moved l =
    let ps : List (Comp × Standing) = map (λ (a : Assigned). (a.comp, Pre a.place)) (places l) in
    let gs : List (Comp × Standing) = issued_flights l in
    let fs : List (Comp × Standing) = forced_flights l in
    let whose : Comp → Text = λ c. c.key in
    let first : map key_of ps ≡ map whose (competitors l) = keys-places (places l) ∙ ap (map whose) (comps-places l) in
    let parts : map key_of (standings l) ≡ map whose (competitors l) ++ map key_of gs ++ map key_of fs =
    map-append key_of (ps ++ gs) fs ∙ ap (λ (ks : List Text). ks ++ map key_of fs) (map-append key_of ps gs ∙ ap (λ (ks : List Text). ks ++ map key_of gs) first) in
    subst (IsPermutation (keys_of l.flights)) (sym parts)
    (IsPermutation-trans _ _ _ (keys_parted l.flights)
    (IsPermutation-append _ _ _ _
    (IsPermutation-append _ _ _ _ (IsPermutation-map whose _ _ (in_order_moved is_before _)) (IsPermutation-map key_of _ _ (in_order_moved is_flight_before _)))
    (IsPermutation-map key_of _ _ (in_order_moved is_flight_before _))))

-- how the flight with a key stands, if there is one
abbrev standing_at : Listing → Text → Comp × Standing
standing_at l key = unwrap_or (standing_of l key) (record { eto = 0; key = key }, NoSlot)

own_standings : (l : Listing) (fs : List (Comp × Standing)) → AllByRecursion (λ (f : Comp × Standing). standing_at l (key_of f) ≡ f) fs → map (standing_at l) (map key_of fs) ≡ fs
own_standings l [] h = refl
own_standings l (f ∷ fs) h = λ i. h.0 i ∷ own_standings l fs h.1 i

entry_standings : (l : Listing) (es : List (Text × Stance)) → AllByRecursion (λ (e : Text × Stance). at_name l.flights e.0 ≡ Some e.1) es
    → map (standing_at l) (keys_of es) ≡ map (λ (e : Text × Stance). standing_as l e.0 e.1) es
entry_standings l [] h = refl
entry_standings l (e ∷ es) h =
    let here : standing_at l e.0 ≡ standing_as l e.0 e.1 =
    ap (λ (o : Option Stance). unwrap_or (option_map (standing_as l e.0) o) (record { eto = 0; key = e.0 }, NoSlot)) h.0 in
    λ i. here i ∷ entry_standings l es h.1 i

standings_moved : (l : Listing) → AreInOrder l.flights → IsPermutation (map (λ (e : Text × Stance). standing_as l e.0 e.1) l.flights) (standings l)
standings_moved l sorted =
    let each : AllByRecursion (λ (f : Comp × Standing). standing_at l (key_of f) ≡ f) (standings l) =
    all-each (Contains (standings l)) (λ (f : Comp × Standing). standing_at l (key_of f) ≡ f)
    (λ f h. ap (λ (o : Option (Comp × Standing)). unwrap_or o (record { eto = 0; key = key_of f }, NoSlot)) ((standings_who l f sorted).0 h)) (standings l) (each_itself (standings l)) in
    subst (λ (fs : List (Comp × Standing)). IsPermutation fs (standings l)) (entry_standings l l.flights (each_found l.flights sorted))
    (subst (IsPermutation (map (standing_at l) (keys_of l.flights))) (own_standings l (standings l) each)
    (IsPermutation-map (standing_at l) _ _ (keys_moved l)))

-- so they are where the forced ones come by key, behind those that the list governs
pub governed-standings : (l : Listing) → take (count_governed l) (standings l) ≡ map as_pre (places l) ++ issued_flights l
governed-standings l =
    let front : List (Comp × Standing) = map as_pre (places l) ++ issued_flights l in
    let size : length front ≡ count_governed l =
    length-append (map as_pre (places l)) (issued_flights l) ∙ ap (λ n. n + length (issued_flights l)) (length-map (places l) as_pre ∙ length-places l) in
    ap (λ n. take n (front ++ forced_flights l)) (sym size) ∙ take-append_seam front (forced_flights l)

pub told_moved : (l : Listing) → AreInOrder l.flights → IsPermutation (map (λ (e : Text × Stance). standing_as l e.0 e.1) l.flights) (flights_told l)
told_moved l sorted =
    let front : List (Comp × Standing) = map as_pre (places l) ++ issued_flights l in
    let forced : List (Comp × Standing) = filter_map (λ (e : Text × Stance). forced_flight e.0 e.1) l.flights in
    subst (λ (fs : List (Comp × Standing)). IsPermutation (map (λ (e : Text × Stance). standing_as l e.0 e.1) l.flights) (fs ++ forced)) (sym (governed-standings l))
    (IsPermutation-trans _ _ _ (standings_moved l sorted)
    (IsPermutation-append_right front _ _ (IsPermutation-sym _ _ (in_order_moved is_flight_before forced))))

-- and there are no fewer than it governs
pub governed_within : (l : Listing) (n : ℕ) → n < count_governed l → n < length (standings l)
governed_within l n lt =
    let front : List (Comp × Standing) = map as_pre (places l) ++ issued_flights l in
    let some = length-append front (forced_flights l) in
    let both = length-append (map as_pre (places l)) (issued_flights l) in
    let size : length (map as_pre (places l)) ≡ length (competitors l) = length-map (places l) as_pre ∙ length-places l in
    omega (arith, some, both, size, lt)

-- the rows of those that it governs and of the forced ones among its first flights, and then among one flight more
abbrev forced_among : List (Text × Stance) → List (Comp × Standing)
forced_among es = filter_map (λ (e : Text × Stance). forced_flight e.0 e.1) es

one_more : (es : List (Text × Stance)) (i : ℕ) (e : Text × Stance) → i < length es → e ≡ get_or es i e → forced_among (take (i + 1) es) ≡ forced_among (take i es) ++ cons_option (forced_flight e.0 e.1) []
one_more es i e lt is =
    ap forced_among (take_more es i e lt ∙ ap (λ (f : Text × Stance). take i es ++ f ∷ []) (sym is))
    ∙ filter_map-append (λ (f : Text × Stance). forced_flight f.0 f.1) (take i es) (e ∷ [])

pub told_more : {X : Type 0} (row : Comp × Standing → X) (front : List (Comp × Standing)) (es : List (Text × Stance)) (i : ℕ) (e : Text × Stance) (f : Comp × Standing) (xs ys : List X) → i < length es → e ≡ get_or es i e → forced_flight e.0 e.1 ≡ Some f → ys ≡ xs ++ row f ∷ [] →
    xs ≡ map row (front ++ forced_among (take i es)) → ys ≡ map row (front ++ forced_among (take (i + 1) es))
told_more row front es i e f xs ys lt is found pushed h =
    pushed
    ∙ ap (λ rows. rows ++ row f ∷ []) h
    ∙ sym (map-append row (front ++ forced_among (take i es)) (f ∷ []))
    ∙ ap (map row) (append_assoc front (forced_among (take i es)) (f ∷ []))
    ∙ sym (ap (λ fs. map row (front ++ fs)) (one_more es i e lt is ∙ ap (λ o. forced_among (take i es) ++ cons_option o []) found))

pub told_same : {X : Type 0} (row : Comp × Standing → X) (front : List (Comp × Standing)) (es : List (Text × Stance)) (i : ℕ) (e : Text × Stance) (xs ys : List X) → i < length es → e ≡ get_or es i e → ((eto : ℕ) → e.1 ≡ Forced eto → ⊥) → ys ≡ xs →
    xs ≡ map row (front ++ forced_among (take i es)) → ys ≡ map row (front ++ forced_among (take (i + 1) es))
told_same row front es i e xs ys lt is other same h =
    same ∙ h
    ∙ sym (ap (λ fs. map row (front ++ fs)) (one_more es i e lt is ∙ ap (λ o. forced_among (take i es) ++ cons_option o []) (none e.1 other) ∙ append-nil (forced_among (take i es))))
  where
    none : (s : Stance) → ((eto : ℕ) → s ≡ Forced eto → ⊥) → forced_flight e.0 s ≡ None
    none (Competing eto) h = refl
    none (Issued eto cto) h = refl
    none (Forced eto) h = absurd (h eto refl)
