-- a competitor that is issued at its calculated time over moves nobody
use Rattle.std.proofs.Common.{◌≡◌, ℕ, List, [], ◌∷◌, ◌++◌, Bool, true, false, not, ◌||◌, cond, refl, sym, ◌∙◌, ap, subst, Option, None, Some}
use Rattle.std.specs.declared.cmp.Ordering.TheVariants.{Less, Equal, Greater}
use Rattle.std.specs.Ordering.{is_eq, match_ordering}
use Rattle.std.specs.Option.{option_map, option_map_or}
use Rattle.std.specs.List.{AllByRecursion, filter, filter_map, find, list_any, cons_option}
use Rattle.std.specs.List.Sorted.{IsStrictlySortedBy}
use Rattle.std.specs.Map.{keys_of}
use Rattle.std.specs.Cmp.Lexicographic.{same_text as text_is}
use Rattle.std.proofs.lemmas.Cmp.{nat_list_eq_equiv}
use Rattle.std.proofs.Math.Bool.{or_assoc, or_comm}
use Rattle.std.proofs.lemmas.Bool.{both_ways, false_from_ne_true, not-true}
use Rattle.casa_grid.specs.declared.slot.Place.TheVariants.{Over}
use Rattle.casa_grid.specs.Profile.{IsProfile, end_of}
use Rattle.casa_grid.specs.Slots.{slots, is_within}
use Rattle.casa_grid.specs.TimeOver.{cto}
use Rattle.casa_flight.specs.declared.comp.Comp.{Comp}
use Rattle.casa_flight.specs.declared.comp.Assigned.{Assigned}
use Rattle.casa_flight.specs.declared.row.Stance.{Stance}
use Rattle.casa_flight.specs.declared.row.Stance.TheVariants.{Competing, Issued}
use Rattle.casa_filing.specs.Text.{Text, same_text, at_name, put, without}
use Rattle.casa_flight.specs.Assignment.{IsServed, IsRight, assignment}
use Rattle.casa_flight.specs.Listing.{Listing, insert_sorted, is_before, competitors, issued_cto, occupancy, places, place_of, stance_of, cto_as, cto_of}
use Rattle.casa_flight.specs.Good.{AreInOrder}
use Rattle.casa_filing.proofs.Entries.{text_cmp, after_all}
use Rattle.casa_laws.proofs.Kept.{at_above}
use Rattle.casa_flight.proofs.PutBy.{put_first, put_later}
use Rattle.casa_laws.proofs.Assignment.{comps_of, comps-assignment, assignment_right, right_is_assignment}
use Rattle.casa_laws.proofs.Competitors.{is_other, filter-all, competitors_left, competitors_stopped, competitors_others}
use Rattle.casa_laws.proofs.Issue.{BlocksToo, right_without}
use Rattle.casa_laws.proofs.Blocked.{AddsTime, blocks_place}

-- the times at which these flights are issued
abbrev pub times : List (Text × Stance) → List ℕ
times fs = filter_map (λ (e : Text × Stance). issued_cto e.1) fs

any_behind : (test : ℕ → Bool) (o : Option ℕ) (xs ys : List ℕ) (b : Bool) → list_any test xs ≡ (list_any test ys || b) → list_any test (cons_option o xs) ≡ (list_any test (cons_option o ys) || b)
any_behind test None xs ys b h = h
any_behind test (Some s) xs ys b h = ap (λ c. test s || c) h ∙ sym (or_assoc (test s) (list_any test ys) b)

any-issued : (test : ℕ → Bool) (key : Text) (eto t : ℕ) (fs : List (Text × Stance)) → AreInOrder fs → at_name fs key ≡ Some (Competing eto) → list_any test (times (put fs key (Issued eto t))) ≡ (list_any test (times fs) || test t)
unfolding IsStrictlySortedBy
any-issued test key eto t [] sorted found = cc
any-issued test key eto t (e ∷ es) sorted found =
    elim (text_cmp key e.0) as (λ r. text_cmp key e.0 ≡ r → cond (is_eq r) (Some e.1) (at_name es key) ≡ Some (Competing eto) → list_any test (times (match_ordering r ((key, Issued eto t) ∷ e ∷ es) ((e.0, Issued eto t) ∷ es) (e ∷ put es key (Issued eto t)))) ≡ (list_any test (times (e ∷ es)) || test t)) [
      | Less ↦ λ less f. let both : None ≡ Some (Competing eto) = sym (at_above key es (after_all key e.0 less (keys_of es) sorted.0)) ∙ f in cc
      | Equal ↦ λ same f.
          let stance : e.1 ≡ Competing eto = cc in
          or_comm (test t) (list_any test (times es)) ∙ ap (λ (s : Stance). list_any test (cons_option (issued_cto s) (times es)) || test t) (sym stance)
      | Greater ↦ λ more f. any_behind test (issued_cto e.1) (times (put es key (Issued eto t))) (times es) (test t) (any-issued test key eto t es sorted.1 f)
    ] refl found

-- where a competitor stands among these, and what they are without it
abbrev IsCutAt : Comp → List Comp → List Comp → Type 0
IsCutAt c whole rest = (before : List Comp) × ((after : List Comp) × ((whole ≡ before ++ c ∷ after) × (rest ≡ before ++ after)))

cut-put_by : (c : Comp) (cs : List Comp) → IsCutAt c (insert_sorted is_before c cs) cs
cut-put_by c [] = ([], ([], (refl, refl)))
cut-put_by c (d ∷ cs) =
    elim (is_before d c) as (λ b. is_before d c ≡ b → IsCutAt c (insert_sorted is_before c (d ∷ cs)) (d ∷ cs)) [
      | true ↦ λ p.
          let cut = cut-put_by c cs in
          (d ∷ cut.0, (cut.1.0, (put_later is_before c d cs p ∙ ap (λ ds. d ∷ ds) cut.1.1.0, ap (λ ds. d ∷ ds) cut.1.1.1)))
      | false ↦ λ p. ([], (d ∷ cs, (put_first is_before c d cs p, refl)))
    ] refl

-- the places of competitors that are cut at one of them
record IsPlacedCut (all : List Assigned) (before : List Comp) (c : Comp) (after : List Comp) : Type 0 where
  front : List Assigned
  own : Assigned
  back : List Assigned
  whole : all ≡ front ++ own ∷ back
  own_is : own.comp ≡ c
  front_is : comps_of front ≡ before
  back_is : comps_of back ≡ after

placed_more : (a : Assigned) (all : List Assigned) (b : Comp) (before : List Comp) (c : Comp) (after : List Comp) → a.comp ≡ b → IsPlacedCut all before c after → IsPlacedCut (a ∷ all) (b ∷ before) c after
placed_more a all b before c after here cut = record {
  front = a ∷ cut.front;
  own = cut.own;
  back = cut.back;
  whole = ap (λ xs. a ∷ xs) cut.whole;
  own_is = cut.own_is;
  front_is = λ i. here i ∷ cut.front_is i;
  back_is = cut.back_is;
}

cut_places : (all : List Assigned) (before : List Comp) (c : Comp) (after : List Comp) → comps_of all ≡ before ++ c ∷ after → IsPlacedCut all before c after
cut_places [] [] c after e = cc
cut_places [] (b ∷ before) c after e = cc
cut_places (a ∷ all) [] c after e =
    let here : a.comp ≡ c = cc in
    let rest : comps_of all ≡ after = cc in
    record { front = []; own = a; back = all; whole = refl; own_is = here; front_is = refl; back_is = rest }
cut_places (a ∷ all) (b ∷ before) c after e =
    let here : a.comp ≡ b = cc in
    let rest : comps_of all ≡ before ++ c ∷ after = cc in
    placed_more a all b before c after here (cut_places all before c after rest)

comps-append : (xs ys : List Assigned) → comps_of (xs ++ ys) ≡ comps_of xs ++ comps_of ys
comps-append [] ys = refl
comps-append (x ∷ xs) ys = ap (λ cs. x.comp ∷ cs) (comps-append xs ys)

-- whether a place is that of another flight
abbrev pub is_others : Text → Assigned → Bool
is_others key a = is_other key a.comp

all_others : (key : Text) (xs : List Assigned) → AllByRecursion (λ (c : Comp). is_other key c ≡ true) (comps_of xs) → AllByRecursion (λ (a : Assigned). is_others key a ≡ true) xs
all_others key [] h = tt
all_others key (x ∷ xs) h = (h.0, all_others key xs h.1)

filter_out : (test : Assigned → Bool) (own : Assigned) → test own ≡ false → (front back : List Assigned) → AllByRecursion (λ (a : Assigned). test a ≡ true) (front ++ back) → filter test (front ++ own ∷ back) ≡ front ++ back
filter_out test own out [] back h = ap (λ b. cond b (own ∷ filter test back) (filter test back)) out ∙ filter-all test back h
filter_out test own out (x ∷ front) back h = ap (λ b. cond b (x ∷ filter test (front ++ own ∷ back)) (filter test (front ++ own ∷ back))) h.0 ∙ ap (λ xs. x ∷ xs) (filter_out test own out front back h.1)

find_own : (key : Text) (own : Assigned) → same_text key own.comp.key ≡ true → (front back : List Assigned) → AllByRecursion (λ (a : Assigned). is_others key a ≡ true) (front ++ back) → find (λ (a : Assigned). same_text key a.comp.key) (front ++ own ∷ back) ≡ Some own
find_own key own is [] back h = ap (λ b. cond b (Some own) (find (λ (a : Assigned). same_text key a.comp.key) back)) is
find_own key own is (x ∷ front) back h = ap (λ b. cond b (Some x) (find (λ (a : Assigned). same_text key a.comp.key) (front ++ own ∷ back))) (not-true _ h.0) ∙ find_own key own is front back h.1

find-filter : {X : Type 0} (wants test : X → Bool) → ((x : X) → wants x ≡ true → test x ≡ true) → (xs : List X) → find wants (filter test xs) ≡ find wants xs
find-filter wants test keeps [] = refl
find-filter {X} wants test keeps (x ∷ xs) =
    elim (test x) as (λ b. test x ≡ b → find wants (cond b (x ∷ filter test xs) (filter test xs)) ≡ find wants (x ∷ xs)) [
      | true ↦ λ h. ap (λ o. cond (wants x) (Some x) o) (find-filter wants test keeps xs)
      | false ↦ λ h.
          let other : wants x ≡ false = false_from_ne_true _ (λ w. both_ways _ h (keeps x w)) in
          find-filter wants test keeps xs ∙ ap (λ b. cond b (Some x) (find wants xs)) (sym other)
    ] refl

-- the list once this flight is issued
abbrev pub with_issue_at : Listing → Text → ℕ → ℕ → Listing
with_issue_at l key eto t = record l { flights = put l.flights key (Issued eto t) }

issued_time : (l : Listing) (key : Text) (eto t : ℕ) → stance_of l key ≡ Some (Competing eto) → cto_of l key ≡ Some t → t ≡ cto (slots l.profile) (end_of l.profile) eto (place_of l key)
issued_time l key eto t stands time =
    let both : Some t ≡ Some (cto_as l key (Competing eto)) = sym time ∙ ap (option_map (cto_as l key)) stands in
    cc

-- the places are those of before without its own
pub places_issued : (l : Listing) (key : Text) (eto t : ℕ) → IsProfile l.profile → AreInOrder l.flights → stance_of l key ≡ Some (Competing eto) → cto_of l key ≡ Some t → places (with_issue_at l key eto t) ≡ filter (is_others key) (places l)
places_issued l key eto t valid sorted stands time =
    let c : Comp = record { eto = eto; key = key } in
    let rest : List Comp = competitors (record l { flights = without l.flights key }) in
    let cut = cut-put_by c rest in
    let placed = cut_places (places l) cut.0 c cut.1.0 (comps-assignment (occupancy l) (competitors l) ∙ competitors_left l key eto sorted stands ∙ cut.1.1.0) in
    let remaining : comps_of (placed.front ++ placed.back) ≡ rest =
    comps-append placed.front placed.back ∙ (λ i. placed.front_is i ++ placed.back_is i) ∙ sym cut.1.1.1 in
    let others : AllByRecursion (λ (a : Assigned). is_others key a ≡ true) (placed.front ++ placed.back) =
    all_others key (placed.front ++ placed.back) (subst (AllByRecursion (λ (c : Comp). is_other key c ≡ true)) (sym remaining) (competitors_others l key sorted)) in
    let is_own : same_text key placed.own.comp.key ≡ true = ap (λ (d : Comp). same_text key d.key) placed.own_is ∙ nat_list_eq_equiv.refl key in
    let place_is : place_of l key ≡ placed.own.place =
    ap (λ xs. option_map_or (λ (a : Assigned). a.place) (find (λ (a : Assigned). same_text key a.comp.key) xs) Over) placed.whole
    ∙ ap (λ o. option_map_or (λ (a : Assigned). a.place) o Over) (find_own key placed.own is_own placed.front placed.back others) in
    let right : IsRight (occupancy l) (placed.front ++ placed.own ∷ placed.back) = subst (IsRight (occupancy l)) placed.whole (assignment_right (occupancy l) (competitors l)) in
    let served : IsServed (occupancy l) placed.front eto placed.own.place =
    subst (λ (d : Comp). IsServed (occupancy l) placed.front d.eto placed.own.place) placed.own_is (right placed.front placed.own placed.back refl) in
    let time_is : t ≡ cto (slots l.profile) (end_of l.profile) eto placed.own.place = issued_time l key eto t stands time ∙ ap (cto (slots l.profile) (end_of l.profile) eto) place_is in
    let adds : AddsTime (times l.flights) (times (put l.flights key (Issued eto t))) (cto (slots l.profile) (end_of l.profile) eto placed.own.place) =
    subst (AddsTime (times l.flights) (times (put l.flights key (Issued eto t)))) time_is (λ w. any-issued (λ s. is_within s w) key eto t l.flights sorted stands) in
    let blocks : BlocksToo (occupancy l) (occupancy (with_issue_at l key eto t)) placed.own.place =
    blocks_place l.profile placed.front eto placed.own.place (times l.flights) (times (put l.flights key (Issued eto t))) valid served adds in
    let still : placed.front ++ placed.back ≡ assignment (occupancy (with_issue_at l key eto t)) (comps_of (placed.front ++ placed.back)) =
    right_is_assignment (occupancy (with_issue_at l key eto t)) (placed.front ++ placed.back)
    (right_without (occupancy l) (occupancy (with_issue_at l key eto t)) placed.front placed.own placed.back blocks right) in
    sym (still ∙ ap (assignment (occupancy (with_issue_at l key eto t))) (remaining ∙ sym (competitors_stopped l key (Issued eto t) sorted refl)))
    ∙ sym (ap (filter (is_others key)) placed.whole ∙ filter_out (is_others key) placed.own (ap not is_own) placed.front placed.back others)

-- every other flight's place stays
pub place_issued : (l : Listing) (key other : Text) (eto t : ℕ) → IsProfile l.profile → AreInOrder l.flights → stance_of l key ≡ Some (Competing eto) → cto_of l key ≡ Some t → (other ≡ key → ⊥) → place_of (with_issue_at l key eto t) other ≡ place_of l other
place_issued l key other eto t valid sorted stands time apart =
    let keeps : (a : Assigned) → same_text other a.comp.key ≡ true → is_others key a ≡ true =
    λ a h. ap not (false_from_ne_true _ (λ own. apart (text_is other a.comp.key (sym h) ∙ sym (text_is key a.comp.key (sym own))))) in
    ap (λ xs. option_map_or (λ (a : Assigned). a.place) (find (λ (a : Assigned). same_text other a.comp.key) xs) Over)
    (places_issued l key eto t valid sorted stands time)
    ∙ ap (λ o. option_map_or (λ (a : Assigned). a.place) o Over) (find-filter (λ (a : Assigned). same_text other a.comp.key) (is_others key) keeps (places l))
