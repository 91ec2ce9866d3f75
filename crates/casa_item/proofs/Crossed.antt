-- the regulations that cover the crossings of a plan are all to which it is subject
use Rattle.std.proofs.Common.{◌≡◌, ℕ, suc, arith, List, [], ◌∷◌, ◌++◌, All, Bool, true, false}
use Rattle.std.proofs.Common.{cond, refl, sym, ap, ◌∙◌, Option, None, Some, subst, if◌then◌else◌}
use Rattle.std.specs.Ordering.{is_eq}
use Rattle.std.specs.Option.{option_and_then, option_map, option_map_or}
use Rattle.std.specs.List.{AllByRecursion, AllPairs, cons_option, filter, filter_map, find}
use Rattle.std.specs.List.Sorted.{IsPermutation}
use Rattle.std.proofs.lemmas.List.Sorted.{IsPermutation-refl, IsPermutation-trans, IsPermutation-cons}
use Rattle.std.proofs.lemmas.List.Sorted.{IsPermutation-middle, IsPermutation-append_right}
use Rattle.std.proofs.lemmas.Cmp.{nat_list_eq_equiv}
use Rattle.casa_filing.specs.declared.plan.Crossing.{Crossing}
use Rattle.casa_filing.specs.declared.regulation.Regulation.{Regulation}
use Rattle.casa_filing.specs.Text.{Text, same_text, at_name, put, without}
use Rattle.casa_filing.specs.FlightPlan.{FlightPlan}
use Rattle.casa_filing.specs.Subject.{subject, is_there, covered}
use Rattle.casa_filing.proofs.PlanFaults.{later_apart, none_like}
use Rattle.casa_flight.specs.Good.{AreInOrder}
use Rattle.casa_flight.specs.Listing.{filter_map_values}
use Rattle.casa_laws.proofs.Kept.{sorted-kept}
use Rattle.casa_filing.proofs.Entries.{text_cmp, same_name, named, at-put, at-without_other, each_found}
use Rattle.casa_filing.proofs.Entries.{filter_map-map}
use Rattle.casa_footprint.specs.Finding.{crossed}
use Rattle.casa_footprint.specs.Finding.{by_id}
use Rattle.casa_item.specs.Crossed.{AreListed, HasPlaces, IsCatalogue, is_over, at_place, place_with, covering, covering_along}
use Rattle.casa_named.proofs.Found.{same_test}

-- the index with one more
pub added : {V : Type 0} (items : V → List Regulation) (es left now : List (Text × V)) (r : Regulation) (o : Option V)
    (new : V)
    → o ≡ at_name es r.loc → items new ≡ option_map_or items o [] ++ r ∷ [] → left ≡ without es r.loc
    → now ≡ put left r.loc new
    → (loc : Text) → at_place items now loc ≡ place_with (at_place items es) r loc
added {V} items es left now r o new was is taken written loc =
    ap (λ (fs : List (Text × V)). at_place items fs loc)
    (written ∙ ap (λ (fs : List (Text × V)). put fs r.loc new) taken)
    ∙ ap (λ (w : Option V). option_map_or items w []) (at-put loc r.loc new (without es r.loc))
    ∙ by (is_eq (text_cmp loc r.loc)) refl
    ∙ ap (λ b. if b then at_place items es loc ++ r ∷ [] else at_place items es loc) (same_test r.loc loc)
  where
    by : (b : Bool) → is_eq (text_cmp loc r.loc) ≡ b
        → option_map_or items (cond b (Some new) (at_name (without es r.loc) loc)) []
        ≡ (if b then at_place items es loc ++ r ∷ [] else at_place items es loc)
    by true t =
        is
        ∙ ap (λ (w : Option V). option_map_or items w [] ++ r ∷ [])
        (was ∙ ap (at_name es) (sym (same_name loc r.loc t)))
    by false t = ap (λ (w : Option V). option_map_or items w []) (at-without_other loc r.loc es t)

-- each of these is one of the open regulations
abbrev pub AreOpen : List Regulation → List Regulation → Type 0
AreOpen all rs = AllByRecursion (λ (r : Regulation). at_name (by_id all) r.id ≡ Some r) rs

all-by_id : (P : Text × Regulation → Type 0) (cs : List Regulation) → AllByRecursion P (by_id cs)
    → AllByRecursion (λ (r : Regulation). P (r.id, r)) cs
all-by_id P [] h = tt
all-by_id P (r ∷ cs) h = (h.0, all-by_id P cs h.1)

pub all_open : (rs : List Regulation) → AreListed rs → AreOpen rs rs
all_open rs listed =
    all-by_id (λ (e : Text × Regulation). at_name (by_id rs) e.0 ≡ Some e.1) rs (each_found (by_id rs) listed)

-- what a plan crosses, as kept entries of the regulations by their identifiers
pub crossed_kept : (plan : FlightPlan) (rs : List Regulation) → filter_map_values (subject plan) (by_id rs) ≡ crossed plan rs
crossed_kept plan rs =
    filter_map-map (λ (e : Text × Regulation). option_map (λ (y : ℕ). (e.0, y)) (subject plan e.1))
    (λ (r : Regulation). (r.id, r)) rs

pub sorted-crossed : (plan : FlightPlan) (rs : List Regulation) → AreListed rs → AreInOrder (crossed plan rs)
sorted-crossed plan rs listed =
    subst (λ (es : List (Text × ℕ)). AreInOrder es) (crossed_kept plan rs)
    (sorted-kept (subject plan) (by_id rs) listed)

-- the entry of a regulation with this time over, if there is one
abbrev entry : Regulation → Option ℕ → Option (Text × ℕ)
entry r w = option_map (λ (eto : ℕ). (r.id, eto)) w

-- those to which a plan with these crossings is subject
abbrev crossed_with : List Crossing → List Regulation → List (Text × ℕ)
crossed_with cs rs = filter_map (λ (r : Regulation). entry r (option_and_then (covered r) (find (is_there r.loc) cs))) rs

none_crossed : (rs : List Regulation) → crossed_with [] rs ≡ []
none_crossed [] = refl
none_crossed (r ∷ rs) = none_crossed rs

-- an entry more in front, or in the middle
in_front : (es fs gs : List (Text × ℕ)) (w : Option (Text × ℕ)) → IsPermutation (es ++ fs) gs
    → IsPermutation (cons_option w es ++ fs) (cons_option w gs)
in_front es fs gs None h = h
in_front es fs gs (Some e) h = IsPermutation-cons e _ _ h

in_middle : (es fs gs : List (Text × ℕ)) (w : Option (Text × ℕ)) → IsPermutation (es ++ fs) gs
    → IsPermutation (es ++ cons_option w fs) (cons_option w gs)
in_middle es fs gs None h = h
in_middle es fs gs (Some e) h =
    IsPermutation-trans _ _ _ (IsPermutation-middle es e fs) (IsPermutation-cons e _ _ h)

-- a crossing more, at a location of its own
one_more : (c : Crossing) (cs : List Crossing)
    → ((loc : Text) → same_text c.loc loc ≡ true → find (is_there loc) cs ≡ None) → (rs : List Regulation)
    → IsPermutation (covering (filter (is_over c.loc) rs) c ++ crossed_with cs rs) (crossed_with (c ∷ cs) rs)
one_more c cs alone [] = IsPermutation-refl []
one_more c cs alone (r ∷ rs) =
    let over : is_over c.loc r ≡ is_there r.loc c = nat_list_eq_equiv.symm r.loc c.loc in
    let rest = one_more c cs alone rs in
    subst (λ b. IsPermutation (covering (cond b (r ∷ filter (is_over c.loc) rs) (filter (is_over c.loc) rs)) c
    ++ crossed_with cs (r ∷ rs)) (crossed_with (c ∷ cs) (r ∷ rs))) (sym over)
    (elim (is_there r.loc c) as (λ b. is_there r.loc c ≡ b
    → IsPermutation (covering (cond b (r ∷ filter (is_over c.loc) rs) (filter (is_over c.loc) rs)) c
    ++ crossed_with cs (r ∷ rs))
    (cons_option (entry r (option_and_then (covered r) (cond b (Some c) (find (is_there r.loc) cs))))
    (crossed_with (c ∷ cs) rs))) [
      | true ↦ λ t.
          subst (λ (w : Option Crossing). IsPermutation (covering (r ∷ filter (is_over c.loc) rs) c
          ++ cons_option (entry r (option_and_then (covered r) w)) (crossed_with cs rs))
          (crossed_with_first (covered r c))) (sym (alone r.loc t))
          (in_front (covering (filter (is_over c.loc) rs) c) (crossed_with cs rs) (crossed_with (c ∷ cs) rs)
          (entry r (covered r c)) rest)
      | false ↦ λ t.
          in_middle (covering (filter (is_over c.loc) rs) c) (crossed_with cs rs) (crossed_with (c ∷ cs) rs)
          (entry r (option_and_then (covered r) (find (is_there r.loc) cs))) rest
    ] refl)
  where
    crossed_with_first : Option ℕ → List (Text × ℕ)
    crossed_with_first w = cons_option (entry r w) (crossed_with (c ∷ cs) rs)

-- at locations none of which is crossed twice, those that cover a crossing are those to which the plan is subject
pub covering_crossed : (rs : List Regulation) (place : Text → List Regulation) → HasPlaces rs place → (cs : List Crossing)
    → AllPairs (λ (a b : Crossing). a.loc ≡ b.loc → ⊥) cs
    → IsPermutation (covering_along place cs) (crossed_with cs rs)
covering_crossed rs place has [] apart = subst (IsPermutation []) (sym (none_crossed rs)) (IsPermutation-refl [])
covering_crossed rs place has (c ∷ cs) apart =
    IsPermutation-trans _ _ _
    (subst (λ (ss : List Regulation). IsPermutation (covering (place c.loc) c ++ covering_along place cs)
    (covering ss c ++ crossed_with cs rs)) (has c.loc)
    (IsPermutation-append_right (covering (place c.loc) c) _ _
    (covering_crossed rs place has cs (later_apart c cs apart))))
    (one_more c cs alone rs)
  where
    none_there : (loc : Text) → c.loc ≡ loc → (ds : List Crossing)
        → All (λ (d : Crossing). same_text c.loc d.loc ≡ false) ds → find (is_there loc) ds ≡ None
    none_there loc same [] h = refl
    none_there loc same (d ∷ ds) h =
        let other : is_there loc d ≡ false =
        nat_list_eq_equiv.symm d.loc loc ∙ ap (λ (p : Text). same_text p d.loc) (sym same) ∙ h 0 d (omega arith) in
        ap (λ b. cond b (Some d) (find (is_there loc) ds)) other
        ∙ none_there loc same ds (λ k e lt. h (suc k) e (omega (arith, lt)))

    alone : (loc : Text) → same_text c.loc loc ≡ true → find (is_there loc) cs ≡ None
    alone loc same = none_there loc (named c.loc loc same) cs (none_like c cs apart)

pub sorted_crossed : (plan : FlightPlan) (rs : List Regulation) (place : Text → List Regulation) → IsCatalogue rs place
    → AllPairs (λ (a b : Crossing). a.loc ≡ b.loc → ⊥) plan.via → (found now : List (Text × ℕ))
    → found ≡ covering_along place plan.via
    → ((es : List (Text × ℕ)) → AreInOrder es → IsPermutation found es → now ≡ es) → now ≡ crossed plan rs
sorted_crossed plan rs place h apart found now is sorted =
    sorted (crossed plan rs) (sorted-crossed plan rs h.listed)
    (subst (λ (es : List (Text × ℕ)). IsPermutation es (crossed plan rs)) (sym is)
    (covering_crossed rs place h.places plan.via apart))
