-- how a flight is to stand in lists: look-ups, by names that stand once
use Rattle.std.proofs.Common.{◌≡◌, ℕ, List, [], ◌∷◌, ◌++◌, Bool, true, false, cond, refl, sym, ap, subst, ◌∙◌, ◌||◌, Option, None, Some, is_some, unwrap_or, if◌then◌else◌}
use Rattle.std.specs.Ordering.{is_eq}
use Rattle.std.specs.Option.{option_map, option_and_then, option_or}
use Rattle.std.specs.List.{cons_option}
use Rattle.std.specs.List.Sorted.{IsStrictlySortedBy}
use Rattle.casa_flight.specs.declared.row.Row.{Row}
use Rattle.casa_flight.specs.declared.row.Stance.{Stance}
use Rattle.casa_flight.specs.declared.state.State.{State}
use Rattle.casa_filing.specs.Text.{Text, at_name, put}
use Rattle.casa_flight.specs.State.{measure_of, catalogue, is_governed_by}
use Rattle.casa_flight.specs.Listing.{Listing, stance}
use Rattle.casa_flight.specs.Good.{AreInOrder}
use Rattle.casa_filing.proofs.Entries.{text_cmp, same_name, at-put}
use Rattle.casa_laws.proofs.Kept.{kept_by, at-kept_by, sorted-kept_by, at_above}
use Rattle.casa_plan_spec.specs.Sight.{Sight, Stand, list_in, with_flight}
use Rattle.casa_plan_spec.specs.Write.{Lists, Stances, with_stands, with_stances, stances_gone, stances_now, stances, crossed_by}
use Rattle.casa_plan_spec.proofs.Crossings.{time_over, at-crossed, sorted-crossed}

-- each name stands once
abbrev pub AreOnce : {X : Type 0} → List (Text × X) → Type 0
AreOnce [] = Unit {0}
AreOnce (e ∷ es) = (at_name es e.0 ≡ None) × AreOnce es

once_sorted : {X : Type 0} (es : List (Text × X)) → AreInOrder es → AreOnce es
unfolding IsStrictlySortedBy
once_sorted [] h = tt
once_sorted (e ∷ es) h = (at_above e.0 es h.0, once_sorted es h.1)

at-both : {X : Type 0} (es fs : List (Text × X)) (q : Text) → at_name (es ++ fs) q ≡ option_or (at_name es q) (at_name fs q)
at-both [] fs q = refl
at-both {X} (e ∷ es) fs q =
    elim (is_eq (text_cmp q e.0)) as (λ b. cond b (Some e.1) (at_name (es ++ fs) q) ≡ option_or (cond b (Some e.1) (at_name es q)) (at_name fs q)) [
      | true ↦ refl
      | false ↦ at-both es fs q
    ]

-- the list with the flight standing so, if there is a list
abbrev pub set_in : Text → Option Listing → Option Stance → Option Listing
set_in key l s = option_map (λ (l : Listing). with_flight l key s) l

-- a list is written where the flight is to stand there so or not at all, and as it was it is left else
pub at-with_stances : (v : Sight) (key : Text) (ls : Lists) (es : Stances) (q : Text) → AreOnce es
    → at_name (with_stances v key ls es) q ≡ option_or (option_map (set_in key (unwrap_or (at_name ls q) (list_in v q))) (at_name es q)) (at_name ls q)
at-with_stances v key ls [] q once = refl
at-with_stances v key ls (e ∷ es) q once =
    at-with_stances v key (put ls e.0 x) es q once.1
    ∙ ap (λ o. option_or (option_map (set_in key (unwrap_or o (list_in v q))) (at_name es q)) o) (at-put q e.0 x ls)
    ∙ (elim (is_eq (text_cmp q e.0)) as (λ b. is_eq (text_cmp q e.0) ≡ b → option_or (option_map (set_in key (unwrap_or (cond b (Some x) (at_name ls q)) (list_in v q))) (at_name es q)) (cond b (Some x) (at_name ls q))
    ≡ option_or (option_map (set_in key (unwrap_or (at_name ls q) (list_in v q))) (cond b (Some e.1) (at_name es q))) (at_name ls q)) [
      | true ↦ λ t.
          subst (λ k. option_or (option_map (set_in key (unwrap_or (Some x) (list_in v k))) (at_name es k)) (Some x) ≡ Some (set_in key (unwrap_or (at_name ls k) (list_in v k)) e.1)) (sym (same_name q e.0 t))
          (ap (λ o. option_or (option_map (set_in key (unwrap_or (Some x) (list_in v e.0))) o) (Some x)) once.0)
      | false ↦ λ t. refl
    ] refl)
  where
    x : Option Listing
    x = set_in key (unwrap_or (at_name ls e.0) (list_in v e.0)) e.1

-- a list is written if it was, or if the flight is to stand there so or not at all
pub lists_named : (v : Sight) (key : Text) (ls : Lists) (es : Stances) (q : Text) → AreOnce es → is_some (at_name (with_stances v key ls es) q) ≡ (is_some (at_name ls q) || is_some (at_name es q))
lists_named v key ls es q once = ap is_some (at-with_stances v key ls es q once) ∙ by (at_name es q) (at_name ls q)
  where
    by : (o : Option (Option Stance)) (p : Option (Option Listing)) → is_some (option_or (option_map (set_in key (unwrap_or p (list_in v q))) o) p) ≡ (is_some p || is_some o)
    by None None = refl
    by None (Some y) = refl
    by (Some s) None = refl
    by (Some s) (Some y) = refl

-- how the flight is to stand
abbrev pub stand_of : Text → Option (Option Stance) → Option Stand
stand_of key o = option_map (λ (s : Option Stance). let stand : Stand = (key, s) in stand) o

-- a flight is to stand so in the lists that are named, and in others as is said already
pub at-with_stands : (key : Text) (all : List (Text × Stand)) (es : Stances) (q : Text) → AreOnce es
    → at_name (with_stands key all es) q ≡ option_or (stand_of key (at_name es q)) (at_name all q)
at-with_stands key all [] q once = refl
at-with_stands key all (e ∷ es) q once =
    let x : Stand = (key, e.1) in
    at-with_stands key (put all e.0 x) es q once.1
    ∙ ap (option_or (stand_of key (at_name es q))) (at-put q e.0 x all)
    ∙ (elim (is_eq (text_cmp q e.0)) as (λ b. is_eq (text_cmp q e.0) ≡ b
    → option_or (stand_of key (at_name es q)) (cond b (Some x) (at_name all q))
    ≡ option_or (stand_of key (cond b (Some e.1) (at_name es q))) (at_name all q)) [
      | true ↦ λ t.
          subst (λ k. option_or (stand_of key (at_name es k)) (Some x) ≡ Some x) (sym (same_name q e.0 t))
          (ap (λ o. option_or (stand_of key o) (Some x)) once.0)
      | false ↦ λ t. refl
    ] refl)

-- the lists that a flight leaves, and those in which it stands, by name
abbrev left_as : List (Text × ℕ) → Text → ℕ → Option (Option Stance)
left_as has id eto = if is_some (at_name has id) then None else Some None

left_kept : (had has : List (Text × ℕ)) → stances_gone had has ≡ kept_by (left_as has) had
left_kept [] has = refl
left_kept (e ∷ had) has = λ i. cons_option (entry (is_some (at_name has e.0)) i) (left_kept had has i)
  where
    entry : (b : Bool) → cond {A = Option (Text × Option Stance)} b None (Some (e.0, None)) ≡ option_map (λ (s : Option Stance). (e.0, s)) (cond b None (Some None))
    entry true = refl
    entry false = refl

abbrev pub left_at : Option ℕ → Option ℕ → Option (Option Stance)
left_at has had = option_and_then (λ (eto : ℕ). if is_some has then None else Some None) had

at-left : (had has : List (Text × ℕ)) (id : Text) → AreInOrder had → at_name (stances_gone had has) id ≡ left_at (at_name has id) (at_name had id)
at-left had has id sorted = ap (λ es. at_name es id) (left_kept had has) ∙ at-kept_by (left_as has) id had sorted

abbrev standing_as : Row → Text → ℕ → Option (Option Stance)
standing_as row id eto = Some (Some (stance (is_governed_by id row) row.issued eto))

standing_kept : (row : Row) (has : List (Text × ℕ)) → stances_now (Some row) has ≡ kept_by (standing_as row) has
standing_kept row [] = refl
standing_kept row (e ∷ has) = ap (λ (es : Stances). (e.0, Some (stance (is_governed_by e.0 row) row.issued e.1)) ∷ es) (standing_kept row has)

abbrev pub stands_at : Text → Option Row → Option ℕ → Option (Option Stance)
stands_at id None w = None
stands_at id (Some row) w = option_map (λ (eto : ℕ). Some (stance (is_governed_by id row) row.issued eto)) w

at-standing : (now : Option Row) (has : List (Text × ℕ)) (id : Text) → AreInOrder has → at_name (stances_now now has) id ≡ stands_at id now (at_name has id)
at-standing None has id sorted = refl
at-standing (Some row) has id sorted = ap (λ es. at_name es id) (standing_kept row has) ∙ at-kept_by (standing_as row) id has sorted ∙ mapped (at_name has id)
  where
    mapped : (w : Option ℕ) → option_and_then (standing_as row id) w ≡ stands_at id (Some row) w
    mapped None = refl
    mapped (Some eto) = refl

-- in a state, by the times over of the flight as it stood and as it stands
pub at-stances : (m : State) (was now : Option Row) (id : Text) → AreInOrder m.regs
    → at_name (stances (catalogue m) was now) id ≡ option_or (left_at (time_over id (measure_of m id) now) (time_over id (measure_of m id) was)) (stands_at id now (time_over id (measure_of m id) now))
at-stances m was now id sorted =
    let had : List (Text × ℕ) = crossed_by (catalogue m) was in
    let has : List (Text × ℕ) = crossed_by (catalogue m) now in
    at-both (stances_gone had has) (stances_now now has) id
    ∙ (λ i. option_or (at-left had has id (sorted-crossed m was sorted) i) (at-standing now has id (sorted-crossed m now sorted) i))
    ∙ (λ i. option_or (left_at (at-crossed m now id sorted i) (at-crossed m was id sorted i)) (stands_at id now (at-crossed m now id sorted i)))

-- and each list is named once
once_standing : (now : Option Row) (has : List (Text × ℕ)) → AreInOrder has → AreOnce (stances_now now has)
once_standing None has ordered = tt
once_standing (Some row) has ordered = once_sorted (stances_now (Some row) has) (subst (λ es. AreInOrder es) (sym (standing_kept row has)) (sorted-kept_by (standing_as row) has ordered))

none_standing : (now : Option Row) (has : List (Text × ℕ)) (id : Text) → AreInOrder has → at_name has id ≡ None → at_name (stances_now now has) id ≡ None
none_standing None has id ordered h = refl
none_standing (Some row) has id ordered h = at-standing (Some row) has id ordered ∙ ap (stands_at id (Some row)) h

once_left : (now : Option Row) (had has : List (Text × ℕ)) → AreInOrder had → AreInOrder has → AreOnce (stances_gone had has ++ stances_now now has)
unfolding IsStrictlySortedBy
once_left now [] has h ordered = once_standing now has ordered
once_left now (e ∷ had) has h ordered = by (once_left now had has h.1 ordered) (at_name has e.0) refl
  where
    by : AreOnce (stances_gone had has ++ stances_now now has) → (w : Option ℕ) → at_name has e.0 ≡ w → AreOnce (cons_option (if is_some w then None else Some (e.0, None)) (stances_gone had has) ++ stances_now now has)
    by rest (Some eto) f = rest
    by rest None f = (
      at-both (stances_gone had has) (stances_now now has) e.0
          ∙ (λ i. option_or ((at-left had has e.0 h.1 ∙ ap (left_at (at_name has e.0)) (at_above e.0 had h.0)) i) (none_standing now has e.0 ordered f i)),
      rest,
    )

pub once-stances : (m : State) (was now : Option Row) → AreInOrder m.regs → AreOnce (stances (catalogue m) was now)
once-stances m was now sorted = once_left now (crossed_by (catalogue m) was) (crossed_by (catalogue m) now) (sorted-crossed m was sorted) (sorted-crossed m now sorted)
