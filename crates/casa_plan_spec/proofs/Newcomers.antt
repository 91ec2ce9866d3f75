-- the flights over a regulation that pass a test are those of all flights over it whose rows pass it
use Rattle.std.proofs.Common.{◌≡◌, ℕ, List, [], ◌∷◌, Bool, true, false, cond, refl, sym, ap, ◌∙◌, Option, None, Some}
use Rattle.std.specs.Cmp.{IsStrictWeakOrder}
use Rattle.std.specs.Option.{option_map_or}
use Rattle.std.specs.List.{AllByRecursion, filter, filter_map, fold, cons_option}
use Rattle.casa_flight.specs.declared.comp.Comp.{Comp}
use Rattle.casa_filing.specs.declared.regulation.Regulation.{Regulation}
use Rattle.casa_flight.specs.declared.row.Row.{Row}
use Rattle.casa_filing.specs.Text.{Text}
use Rattle.casa_filing.specs.Subject.{subject}
use Rattle.casa_flight.specs.Listing.{insert_sorted, sorted_by, is_before}
use Rattle.casa_flight.specs.Steps.{flights_over}
use Rattle.casa_filing.proofs.Entries.{all-each}
use Rattle.casa_laws.proofs.GoodRegs.{comp_if}
use Rattle.casa_flight.proofs.Planning.{comps_order}
use Rattle.casa_flight.proofs.PutBy.{put_first, put_later}
use Rattle.casa_flight.proofs.Sorting.{IsRanked, ranked-put}

module _ {X : Type 0} (precedes : X → X → Bool) (order : IsStrictWeakOrder precedes) (test : X → Bool) where
  all-filter : (P : X → Type 0) (xs : List X) → AllByRecursion P xs → AllByRecursion P (filter test xs)
  all-filter P [] h = tt
  all-filter P (x ∷ xs) h =
      elim (test x) as (λ b. AllByRecursion P (cond b (x ∷ filter test xs) (filter test xs))) [
        | true ↦ (h.0, all-filter P xs h.1)
        | false ↦ all-filter P xs h.1
      ]

  -- what nothing precedes comes first
  put-before : (x : X) (ys : List X) → AllByRecursion (λ (y : X). precedes y x ≡ false) ys → insert_sorted precedes x ys ≡ x ∷ ys
  put-before x [] h = refl
  put-before x (y ∷ ys) h = put_first precedes x y ys h.0

  -- what is put among those that pass is put among all
  filter-put : (x : X) (ys : List X) → IsRanked precedes ys → filter test (insert_sorted precedes x ys) ≡ cond (test x) (insert_sorted precedes x (filter test ys)) (filter test ys)
  filter-put x [] h = refl
  filter-put x (y ∷ ys) h =
      elim (precedes y x) as (λ b. precedes y x ≡ b → filter test (insert_sorted precedes x (y ∷ ys)) ≡ cond (test x) (insert_sorted precedes x (filter test (y ∷ ys))) (filter test (y ∷ ys))) [
        | true ↦ λ p.
            ap (filter test) (put_later precedes x y ys p)
            ∙ ap (λ (zs : List X). cond (test y) (y ∷ zs) zs) (filter-put x ys h.1)
            ∙ later p (test x) (test y)
        | false ↦ λ p.
            ap (filter test) (put_first precedes x y ys p)
            ∙ ap (λ (zs : List X). cond (test x) zs (filter test (y ∷ ys))) (sym (put-before x (filter test (y ∷ ys)) (all-filter (λ (z : X). precedes z x ≡ false) (y ∷ ys) (
              p,
              all-each (λ (z : X). precedes z y ≡ false) (λ (z : X). precedes z x ≡ false) (λ z q. order.chain z y x q p) ys h.0,
            ))))
      ] refl
    where
      later : precedes y x ≡ true → (a b : Bool)
          → cond b (y ∷ cond a (insert_sorted precedes x (filter test ys)) (filter test ys)) (cond a (insert_sorted precedes x (filter test ys)) (filter test ys))
          ≡ cond a (insert_sorted precedes x (cond b (y ∷ filter test ys) (filter test ys))) (cond b (y ∷ filter test ys) (filter test ys))
      later p true true = sym (put_later precedes x y (filter test ys) p)
      later p true false = refl
      later p false b = refl

  filter-fold : (xs ys : List X) → IsRanked precedes ys
      → filter test (fold (λ (zs : List X) (x : X). insert_sorted precedes x zs) ys xs) ≡ fold (λ (zs : List X) (x : X). insert_sorted precedes x zs) (filter test ys) (filter test xs)
  filter-fold [] ys h = refl
  filter-fold (x ∷ xs) ys h =
      filter-fold xs (insert_sorted precedes x ys) (ranked-put precedes order x ys h)
      ∙ ap (λ (zs : List X). fold (λ (zs : List X) (x : X). insert_sorted precedes x zs) zs (filter test xs)) (filter-put x ys h)
      ∙ by (test x)
    where
      by : (b : Bool) → fold (λ (zs : List X) (x : X). insert_sorted precedes x zs) (cond b (insert_sorted precedes x (filter test ys)) (filter test ys)) (filter test xs)
          ≡ fold (λ (zs : List X) (x : X). insert_sorted precedes x zs) (filter test ys) (cond b (x ∷ filter test xs) (filter test xs))
      by true = refl
      by false = refl

  -- those that pass, put in order, are those of all in order
  pub filter-in_order : (xs : List X) → filter test (sorted_by precedes xs) ≡ sorted_by precedes (filter test xs)
  filter-in_order xs = filter-fold xs [] tt

pub newcomers : (at : Text → Option Row) (test : Row → Bool) (r : Regulation) (rows : List (Text × Row)) → AllByRecursion (λ (e : Text × Row). at e.0 ≡ Some e.1) rows
    → filter (λ (c : Comp). option_map_or test (at c.key) false) (flights_over (λ (row : Row). true) r rows) ≡ flights_over test r rows
newcomers at test r rows found =
    filter-in_order is_before comps_order (λ (c : Comp). option_map_or test (at c.key) false) (filter_map (λ (e : Text × Row). comp_if true (subject e.1.plan r) e.0) rows)
    ∙ ap (sorted_by is_before) (each rows found)
  where
    one : (e : Text × Row) (w : Option ℕ) (rest : List Comp) → at e.0 ≡ Some e.1
        → filter (λ (c : Comp). option_map_or test (at c.key) false) (cons_option (comp_if true w e.0) rest) ≡ cons_option (comp_if (test e.1) w e.0) (filter (λ (c : Comp). option_map_or test (at c.key) false) rest)
    one e None rest f = none (test e.1)
      where
        none : (b : Bool) → filter (λ (c : Comp). option_map_or test (at c.key) false) rest ≡ cons_option (comp_if b None e.0) (filter (λ (c : Comp). option_map_or test (at c.key) false) rest)
        none true = refl
        none false = refl
    one e (Some eto) rest f =
        let c : Comp = record { eto = eto; key = e.0 } in
        let others : List Comp = filter (λ (c : Comp). option_map_or test (at c.key) false) rest in
        ap (λ (o : Option Row). cond (option_map_or test o false) (c ∷ others) others) f ∙ here c others (test e.1)
      where
        here : (c : Comp) (others : List Comp) (b : Bool) → cond b (c ∷ others) others ≡ cons_option (cond b (Some c) None) others
        here c others true = refl
        here c others false = refl

    each : (es : List (Text × Row)) → AllByRecursion (λ (e : Text × Row). at e.0 ≡ Some e.1) es
        → filter (λ (c : Comp). option_map_or test (at c.key) false) (filter_map (λ (e : Text × Row). comp_if true (subject e.1.plan r) e.0) es) ≡ filter_map (λ (e : Text × Row). comp_if (test e.1) (subject e.1.plan r) e.0) es
    each [] h = refl
    each (e ∷ es) h =
        one e (subject e.1.plan r) (filter_map (λ (e : Text × Row). comp_if true (subject e.1.plan r) e.0) es) h.0
        ∙ ap (λ (cs : List Comp). cons_option (comp_if (test e.1) (subject e.1.plan r) e.0) cs) (each es h.1)
