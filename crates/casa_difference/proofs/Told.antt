-- which flights are told: those of either day that do not stand alike on both
use Rattle.std.proofs.Common.{◌≡◌, ◌∙◌, ◌≢◌, ◌↔◌, ℕ, List, [], ◌∷◌, map, Bool, true, false, cond, not, ◌&&◌, ◌||◌, ◌==◌, Option, None, Some, refl, sym, ap, subst}
use Rattle.std.specs.Prelude.{filter, is_some, IsTrue}
use Rattle.std.specs.declared.cmp.Ordering.TheVariants.{Less, Equal, Greater}
use Rattle.std.specs.List.{list_any}
use Rattle.std.specs.Map.{keys_of}
use Rattle.std.specs.Option.{option_eq, option_map}
use Rattle.std.specs.Ordering.{is_eq, match_ordering}
use Rattle.std.specs.Set.{merge_step, sorted_merge}
use Rattle.std.proofs.lemmas.Bool.{and_parts, and_right, both_ways, eq-eqb, eqb-true}
use Rattle.std.proofs.lemmas.Cmp.{nat_list_eq_equiv}
use Rattle.std.proofs.lemmas.Map.Lookups.{exact_bytes}
use Rattle.casa_filing.specs.Text.{Text, at_name, same_text}
use Rattle.casa_filing.proofs.Entries.{apart, itself, named, other_way, text_cmp}
use Rattle.casa_flight.specs.declared.row.Row.{Row}
use Rattle.casa_flight.specs.declared.state.State.{State}
use Rattle.casa_flight.specs.State.{row_of}
use Rattle.casa_difference.specs.declared.flights.Difference.{Difference}
use Rattle.casa_difference.specs.declared.standing.Standing.{Standing}
use Rattle.casa_difference.specs.Differences.{difference, differences, differs, is_told, keys_of_either}
use Rattle.casa_difference.specs.Standings.{same_standing, standing, standing_in}

-- a test of names finds a name again, and no other
same_itself : (q : Text) → same_text q q ≡ true
same_itself q = nat_list_eq_equiv.refl q

-- standings that are the same by the test are equal, and each is the same as itself
texts_same : (a b : Option Text) → option_eq same_text a b ≡ true → a ≡ b
texts_same None None h = refl
texts_same None (Some y) h = cc
texts_same (Some x) None h = cc
texts_same (Some x) (Some y) h = ap Some (named x y h)

numbers_same : (a b : Option ℕ) → option_eq ◌==◌ a b ≡ true → a ≡ b
numbers_same None None h = refl
numbers_same None (Some y) h = cc
numbers_same (Some x) None h = cc
numbers_same (Some x) (Some y) h = ap Some (eqb-true x y h)

are_same : (a b : Standing) → same_standing a b ≡ true → a ≡ b
are_same a b h =
    let parts = and_parts _ _ h in
    let times = and_parts _ _ parts.1 in
    let reg : a.reg ≡ b.reg = texts_same a.reg b.reg parts.0 in
    let ctot : a.ctot ≡ b.ctot = numbers_same a.ctot b.ctot times.0 in
    let delay : a.delay ≡ b.delay = eqb-true a.delay b.delay times.1 in
    λ i. record { reg = reg i; ctot = ctot i; delay = delay i }

text_itself : (a : Option Text) → option_eq same_text a a ≡ true
text_itself None = refl
text_itself (Some x) = same_itself x

number_itself : (a : Option ℕ) → option_eq ◌==◌ a a ≡ true
number_itself None = refl
number_itself (Some x) = eq-eqb x x refl

standing_itself : (a : Standing) → same_standing a a ≡ true
standing_itself a = rw (text_itself a.reg, number_itself a.ctot, eq-eqb a.delay a.delay refl) refl

both_same : (a b : Option Standing) → option_eq same_standing a b ≡ true → a ≡ b
both_same None None h = refl
both_same None (Some y) h = cc
both_same (Some x) None h = cc
both_same (Some x) (Some y) h = ap Some (are_same x y h)

both_itself : (a : Option Standing) → option_eq same_standing a a ≡ true
both_itself None = refl
both_itself (Some x) = standing_itself x

-- so a flight differs exactly where it does not stand alike
pub differ-apart : (d : Difference) → differs d ≡ true → d.base ≢ d.variant
differ-apart d h same =
    let alike : option_eq same_standing d.base d.variant ≡ true =
    subst (λ (s : Option Standing). option_eq same_standing d.base s ≡ true) same (both_itself d.base) in
    let not_so : differs d ≡ false = ap not alike in
    absurd (both_ways _ not_so h)

pub apart-differ : (d : Difference) → d.base ≢ d.variant → differs d ≡ true
apart-differ d h =
    elim (option_eq same_standing d.base d.variant) as (λ b. option_eq same_standing d.base d.variant ≡ b → not b ≡ true) [
      | true ↦ λ same. absurd (h (both_same d.base d.variant same))
      | false ↦ λ other. refl
    ] refl

-- no flight differs between a day and itself
pub same-day : (m : State) (ks : List Text) → filter differs (map (difference m m) ks) ≡ []
same-day m [] = refl
same-day m (k ∷ ks) =
    let alike : differs (difference m m k) ≡ false = ap not (both_itself (standing_in m k)) in
    ap (λ b. cond b (difference m m k ∷ filter differs (map (difference m m) ks)) (filter differs (map (difference m m) ks))) alike
    ∙ same-day m ks

-- the keys of a merge are those of both lists
or_moved : (a b c : Bool) → (a || (b || c)) ≡ ((a || b) || c)
or_moved true b c = refl
or_moved false b c = refl

or_twice : (a b c : Bool) → (a || (b || c)) ≡ ((a || b) || (a || c))
or_twice true b c = refl
or_twice false b c = refl

or_second : (a b c : Bool) → (a || (b || c)) ≡ (b || (a || c))
or_second true true c = refl
or_second true false c = refl
or_second false b c = refl

module _ (q : Text) where
  abbrev has : List Text → Bool
  has ks = list_any (same_text q) ks

  merged_at : (x : Text) (xs : List Text) (on : List Text → List Text) → ((ys : List Text) → has (on ys) ≡ (has xs || has ys))
      → (ys : List Text) → has (merge_step text_cmp true x xs on ys) ≡ ((same_text q x || has xs) || has ys)
  merged_at x xs on h [] = or_none (same_text q x || has xs)
    where
      or_none : (b : Bool) → b ≡ (b || false)
      or_none true = refl
      or_none false = refl
  merged_at x xs on h (y ∷ ys) =
      elim (text_cmp x y) as (λ r. text_cmp x y ≡ r → has (match_ordering r (x ∷ on (y ∷ ys)) (x ∷ on ys) (y ∷ merge_step text_cmp true x xs on ys)) ≡ ((same_text q x || has xs) || (same_text q y || has ys))) [
        | Less ↦ λ t. ap (λ b. same_text q x || b) (h (y ∷ ys)) ∙ or_moved (same_text q x) (has xs) (same_text q y || has ys)
        | Equal ↦ λ t.
            ap (λ b. same_text q x || b) (h ys) ∙ or_twice (same_text q x) (has xs) (has ys)
            ∙ ap (λ (k : Text). (same_text q x || has xs) || (same_text q k || has ys)) (exact_bytes x y t)
        | Greater ↦ λ t.
            ap (λ b. same_text q y || b) (merged_at x xs on h ys) ∙ or_second (same_text q y) (same_text q x || has xs) (has ys)
      ] refl

  merged : (xs ys : List Text) → has (sorted_merge text_cmp true xs ys) ≡ (has xs || has ys)
  merged [] ys = refl
  merged (x ∷ xs) ys = merged_at x xs (sorted_merge text_cmp true xs) (merged xs) ys

  -- a key is among those of a map exactly where the map has something under it
  kept : {X : Type 0} (es : List (Text × X)) → has (keys_of es) ≡ is_some (at_name es q)
  kept [] = refl
  kept {X} (e ∷ es) =
      elim (same_text q e.0) as (λ b. same_text q e.0 ≡ b → (b || has (keys_of es)) ≡ is_some (cond (is_eq (text_cmp q e.0)) (Some e.1) (at_name es q))) [
        | true ↦ λ t.
            let tied : is_eq (text_cmp q e.0) ≡ true = subst (λ (k : Text). is_eq (text_cmp q k) ≡ true) (named q e.0 t) (itself q) in
            ap (λ b. is_some (cond b (Some e.1) (at_name es q))) (sym tied)
        | false ↦ λ t.
            let other : is_eq (text_cmp q e.0) ≡ false = other_way e.0 q (apart q e.0 t) in
            kept es ∙ ap (λ b. is_some (cond b (Some e.1) (at_name es q))) (sym other)
      ] refl

  module _ (m n : State) where
    abbrev rest : List Text → List Difference
    rest ks = filter differs (map (difference m n) ks)

    -- another flight is told or not, and so is this one or not where it stands first
    past : (k : Text) (ks : List Text) (b : Bool) → same_text q k ≡ false → is_told q (cond b (difference m n k ∷ rest ks) (rest ks)) ≡ is_told q (rest ks)
    past k ks true t = ap (λ c. c || is_told q (rest ks)) t
    past k ks false t = refl

    first : (k : Text) (ks : List Text) (b : Bool) → same_text q k ≡ true → differs (difference m n q) ≡ b
        → is_told q (rest ks) ≡ (has ks && differs (difference m n q)) → is_told q (cond b (difference m n k ∷ rest ks) (rest ks)) ≡ b
    first k ks true t own before = ap (λ c. c || is_told q (rest ks)) t
    first k ks false t own before = before ∙ and_right (has ks) _ own

    -- of some keys those are told that differ
    told_of : (ks : List Text) → is_told q (rest ks) ≡ (has ks && differs (difference m n q))
    told_of [] = refl
    told_of (k ∷ ks) =
        let before = told_of ks in
        elim (same_text q k) as (λ b. same_text q k ≡ b → is_told q (rest (k ∷ ks)) ≡ ((b || has ks) && differs (difference m n q))) [
          | true ↦ λ t.
              let same : differs (difference m n q) ≡ differs (difference m n k) = ap (λ (key : Text). differs (difference m n key)) (named q k t) in
              first k ks (differs (difference m n k)) t same before ∙ sym same
          | false ↦ λ t. past k ks (differs (difference m n k)) t ∙ before
        ] refl

    -- a flight that neither day has does not differ
    by_rows : (a b : Option Row) → ((is_some a || is_some b) && not (option_eq same_standing (option_map (standing m q) a) (option_map (standing n q) b)))
        ≡ not (option_eq same_standing (option_map (standing m q) a) (option_map (standing n q) b))
    by_rows None None = refl
    by_rows None (Some y) = refl
    by_rows (Some x) b = refl

    told : is_told q (differences m n) ≡ differs (difference m n q)
    told =
        told_of (keys_of_either m n)
        ∙ ap (λ b. b && differs (difference m n q)) (merged (keys_of m.rows) (keys_of n.rows) ∙ (λ i. kept m.rows i || kept n.rows i))
        ∙ by_rows (row_of m q) (row_of n q)

pub told-differ : (m n : State) (key : Text) → IsTrue (is_told key (differences m n)) ↔ (standing_in m key ≢ standing_in n key)
told-differ m n key = (
  λ h. differ-apart (difference m n key) (sym (told key m n) ∙ h),
  λ h. told key m n ∙ apart-differ (difference m n key) h,
)
