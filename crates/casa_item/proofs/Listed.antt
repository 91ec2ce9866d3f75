-- listed regulations with one more, without one, and a search among them
use Rattle.std.proofs.Common.{◌≡◌, ℕ, zero, suc, arith, get_or, ◌⊎◌, inl, inr, ◌≤◌, ◌<◌, List, [], ◌∷◌, ◌++◌}
use Rattle.std.proofs.Common.{length, Bool, true, false, not, ◌||◌, ◌&&◌, cond, refl, sym, ap, subst, ◌∙◌, Option, None}
use Rattle.std.proofs.Common.{Some, is_some}
use Rattle.std.specs.declared.cmp.Ordering.{Ordering}
use Rattle.std.specs.declared.cmp.Ordering.TheVariants.{Less, Equal, Greater}
use Rattle.std.specs.Ordering.{is_eq, is_lt, match_ordering, ordering_index}
use Rattle.std.specs.Option.{option_map}
use Rattle.std.specs.List.{AllByRecursion, cons_option}
use Rattle.std.specs.List.Sorted.{IsNonDecreasingBy, IsPartitionPoint, IsStrictlySortedBy}
use Rattle.std.specs.Map.{keys_of}
use Rattle.std.proofs.lemmas.Bool.{cases_lt}
use Rattle.std.proofs.lemmas.Simd.{map-map}
use Rattle.casa_filing.specs.declared.regulation.Regulation.{Regulation}
use Rattle.casa_filing.specs.FlightPlan.{FlightPlan}
use Rattle.casa_filing.specs.Subject.{subject}
use Rattle.casa_filing.specs.Text.{Text, same_text, at_name, put, without}
use Rattle.casa_filing.proofs.Entries.{text_cmp, same_name, after_all, other_way, sorted-put, sorted-remove}
use Rattle.casa_laws.proofs.Kept.{Above}
use Rattle.casa_footprint.specs.Finding.{crossed}
use Rattle.casa_footprint.specs.Finding.{by_id}
use Rattle.casa_item.specs.Crossed.{before, after, others, meets, AreListed}
use Rattle.casa_item.proofs.Crossed.{all_open}
use Rattle.casa_item.proofs.Sorted.{flipped, searchable}
use Rattle.casa_named.proofs.Found.{same_test}

-- where each comes after the name
none_before : (k : Text) (rs : List Regulation) → Above k (by_id rs) → before k rs ≡ []
none_before k [] h = refl
none_before k (r ∷ rs) h =
    ap (λ o. cond (is_lt o) (r ∷ before k rs) (before k rs)) (flipped k r.id Less h.0) ∙ none_before k rs h.1

all_after : (k : Text) (rs : List Regulation) → Above k (by_id rs) → after k rs ≡ rs
all_after k [] h = refl
all_after k (r ∷ rs) h =
    ap (λ o. cond (is_lt o) (r ∷ after k rs) (after k rs)) h.0
    ∙ ap (λ (ss : List Regulation). r ∷ ss) (all_after k rs h.1)

all_others : (k : Text) (rs : List Regulation) → Above k (by_id rs) → others k rs ≡ rs
all_others k [] h = refl
all_others k (r ∷ rs) h =
    ap (λ b. cond (not b) (r ∷ others k rs) (others k rs)) (sym (same_test r.id k) ∙ ap is_eq h.0)
    ∙ ap (λ (ss : List Regulation). r ∷ ss) (all_others k rs h.1)

-- a new one, with those before it and those after it
abbrev pub listed_with : Regulation → List Regulation → List Regulation
listed_with new rs = before new.id rs ++ new ∷ after new.id rs

pub with_is : (new : Regulation) (rs : List Regulation) → AreListed rs
    → by_id (listed_with new rs) ≡ put (by_id rs) new.id new
unfolding IsStrictlySortedBy
with_is new [] h = refl
with_is new (r ∷ rs) h =
    elim (text_cmp new.id r.id) as (λ o. text_cmp new.id r.id ≡ o → by_id (listed_with new (r ∷ rs))
    ≡ match_ordering o ((new.id, new) ∷ by_id (r ∷ rs)) ((r.id, new) ∷ by_id rs)
    ((r.id, r) ∷ put (by_id rs) new.id new)) [
      | Less ↦ λ t.
          let above : Above new.id (by_id (r ∷ rs)) = (t, after_all new.id r.id t (keys_of (by_id rs)) h.0) in
          λ i. by_id (none_before new.id (r ∷ rs) above i ++ new ∷ all_after new.id (r ∷ rs) above i)
      | Equal ↦ λ t.
          let same : new.id ≡ r.id = same_name new.id r.id (ap is_eq t) in
          let above : Above new.id (by_id rs) = subst (λ (k : Text). Above k (by_id rs)) (sym same) h.0 in
          let first : before new.id (r ∷ rs) ≡ [] = skip (flipped new.id r.id Equal t) ∙ none_before new.id rs above in
          let last : after new.id (r ∷ rs) ≡ rs = pass t ∙ all_after new.id rs above in
          (λ i. by_id (first i ++ new ∷ last i)) ∙ ap (λ (k : Text). (k, new) ∷ by_id rs) same
      | Greater ↦ λ t.
          let first : before new.id (r ∷ rs) ≡ r ∷ before new.id rs = skip (flipped new.id r.id Greater t) in
          (λ i. by_id (first i ++ new ∷ pass t i))
          ∙ ap (λ (es : List (Text × Regulation)). (r.id, r) ∷ es) (with_is new rs h.1)
    ] refl
  where
    skip : {o : Ordering} → text_cmp r.id new.id ≡ o
        → before new.id (r ∷ rs) ≡ cond (is_lt o) (r ∷ before new.id rs) (before new.id rs)
    skip t = ap (λ o. cond (is_lt o) (r ∷ before new.id rs) (before new.id rs)) t

    pass : {o : Ordering} → text_cmp new.id r.id ≡ o
        → after new.id (r ∷ rs) ≡ cond (is_lt o) (r ∷ after new.id rs) (after new.id rs)
    pass t = ap (λ o. cond (is_lt o) (r ∷ after new.id rs) (after new.id rs)) t

pub with_listed : (new : Regulation) (rs : List Regulation) → AreListed rs → AreListed (listed_with new rs)
with_listed new rs h =
    subst (λ (es : List (Text × Regulation)). IsStrictlySortedBy text_cmp (keys_of es)) (sym (with_is new rs h))
    (sorted-put new.id new (by_id rs) h)

pub without_is : (id : Text) (rs : List Regulation) → AreListed rs → by_id (others id rs) ≡ without (by_id rs) id
unfolding IsStrictlySortedBy
without_is id [] h = refl
without_is id (r ∷ rs) h =
    ap (λ b. by_id (cond (not b) (r ∷ others id rs) (others id rs))) (sym (same_test r.id id))
    ∙ (elim (is_eq (text_cmp id r.id)) as (λ b. is_eq (text_cmp id r.id) ≡ b
    → by_id (cond (not b) (r ∷ others id rs) (others id rs))
    ≡ cond b (by_id rs) ((r.id, r) ∷ without (by_id rs) id)) [
      | true ↦ λ t.
          let same : id ≡ r.id = same_name id r.id t in
          ap by_id (all_others id rs (subst (λ (k : Text). Above k (by_id rs)) (sym same) h.0))
      | false ↦ λ t. ap (λ (es : List (Text × Regulation)). (r.id, r) ∷ es) (without_is id rs h.1)
    ] refl)

pub without_listed : (id : Text) (rs : List Regulation) → AreListed rs → AreListed (others id rs)
without_listed id rs h =
    subst (λ (es : List (Text × Regulation)). IsStrictlySortedBy text_cmp (keys_of es)) (sym (without_is id rs h))
    (sorted-remove (λ q. is_eq (text_cmp id q)) (by_id rs) h)

-- what a plan crosses says whether it is subject to a regulation
pub crossed_meets : (plan : FlightPlan) (rs : List Regulation) (id : Text)
    → is_some (at_name (crossed plan rs) id) ≡ meets rs plan id
crossed_meets plan [] id = refl
crossed_meets plan (r ∷ rs) id = by (crossed_meets plan rs id) (subject plan r)
  where
    or_some : is_some (at_name (crossed plan rs) id) ≡ meets rs plan id → (eto : ℕ) (b : Bool)
        → is_some (cond b (Some eto) (at_name (crossed plan rs) id)) ≡ (b || meets rs plan id)
    or_some later eto true = refl
    or_some later eto false = later

    by : is_some (at_name (crossed plan rs) id) ≡ meets rs plan id → (o : Option ℕ)
        → is_some (at_name (cons_option (option_map (λ (eto : ℕ). (r.id, eto)) o) (crossed plan rs)) id)
        ≡ ((is_some o && same_text r.id id) || meets rs plan id)
    by later None = later
    by later (Some eto) =
        ap (λ b. is_some (cond b (Some eto) (at_name (crossed plan rs) id))) (same_test r.id id)
        ∙ or_some later eto (same_text r.id id)

-- a binary search among listed regulations
pub searchable_by_id : (id : Text) (rs : List Regulation) → AreListed rs
    → IsNonDecreasingBy (λ (r : Regulation). ordering_index (text_cmp r.id id)) rs
searchable_by_id id rs h =
    searchable (λ (r : Regulation). r.id) id rs
    (subst (IsStrictlySortedBy text_cmp)
    (map-map (λ (e : Text × Regulation). e.0) (λ (r : Regulation). (r.id, r)) rs) h)

open_at : (P : Regulation → Type 0) (rs : List Regulation) → AllByRecursion P rs → (k : ℕ) (d : Regulation)
    → k < length rs → P (get_or rs k d)
open_at P [] h k d below = absurd (omega (arith, below))
open_at P (r ∷ rs) h zero d below = h.0
open_at P (r ∷ rs) h (suc k) d below = open_at P rs h.1 k d (omega (arith, below))

pub found_at : (id : Text) (rs : List Regulation) → AreListed rs → (k : ℕ) (d : Regulation) → k < length rs
    → text_cmp (get_or rs k d).id id ≡ Equal → at_name (by_id rs) id ≡ Some (get_or rs k d)
found_at id rs h k d below same =
    subst (λ (q : Text). at_name (by_id rs) q ≡ Some (get_or rs k d)) (same_name (get_or rs k d).id id (ap is_eq same))
    (open_at (λ (r : Regulation). at_name (by_id rs) r.id ≡ Some r) rs (all_open rs h) k d below)

none_named : (id : Text) (rs : List Regulation)
    → ((k : ℕ) (d : Regulation) → k < length rs → is_eq (text_cmp (get_or rs k d).id id) ≡ false)
    → at_name (by_id rs) id ≡ None
none_named id [] h = refl
none_named id (r ∷ rs) h =
    ap (λ b. cond b (Some r) (at_name (by_id rs) id)) (other_way r.id id (h 0 r (omega arith)))
    ∙ none_named id rs (λ k d below. h (suc k) d (omega (arith, below)))

pub none_found : (id : Text) (rs : List Regulation) (i : ℕ)
    → IsPartitionPoint (λ (r : Regulation). text_cmp r.id id ≡ Less)
    (λ (r : Regulation). text_cmp r.id id ≡ Greater) rs i
    → at_name (by_id rs) id ≡ None
none_found id rs i h = none_named id rs (λ k d below. by k d below (cases_lt k i))
  where
    by : (k : ℕ) (d : Regulation) → k < length rs → (k < i) ⊎ (i ≤ k) → is_eq (text_cmp (get_or rs k d).id id) ≡ false
    by k d below (inl less) = ap is_eq (h.0 k d (omega arith) less)
    by k d below (inr more) = ap is_eq (h.1 k d more below)
