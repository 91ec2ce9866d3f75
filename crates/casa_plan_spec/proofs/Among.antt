-- who is among the flights that enter, and that each is another than the others
use Rattle.std.proofs.Common.{◌≡◌, ℕ, List, [], ◌∷◌, Bool, true, false, cond, refl, sym, ap, subst, ◌∙◌, ◌&&◌, ◌||◌, Option, None, Some, is_some}
use Rattle.std.specs.Option.{option_map, option_map_or}
use Rattle.std.specs.Ordering.{is_eq}
use Rattle.std.specs.List.{AllByRecursion, list_any, filter_map, cons_option}
use Rattle.std.specs.List.Sorted.{IsStrictlySortedBy}
use Rattle.casa_flight.specs.declared.comp.Comp.{Comp}
use Rattle.casa_filing.specs.declared.regulation.Regulation.{Regulation}
use Rattle.casa_flight.specs.declared.row.Row.{Row}
use Rattle.casa_filing.specs.Text.{Text, same_text, at_name}
use Rattle.casa_filing.specs.Subject.{subject}
use Rattle.casa_flight.specs.Listing.{is_before}
use Rattle.casa_flight.specs.Steps.{flights_over}
use Rattle.casa_flight.specs.Good.{AreInOrder}
use Rattle.casa_filing.proofs.Entries.{text_cmp, same_name}
use Rattle.casa_laws.proofs.Kept.{at_above}
use Rattle.casa_laws.proofs.InOrder.{HasName}
use Rattle.casa_laws.proofs.GoodRegs.{comp_if, any-in_order}
use Rattle.casa_plan_spec.proofs.Changes.{test_same}
use Rattle.casa_plan_spec.proofs.Entries.{enters_among}

-- whether any of what is made of entries has this name, by the entry that has it
pub any_named : {X S : Type 0} (name : X → Text) (kind : Text × S → Option X) → HasName name kind → (q : Text) (es : List (Text × S)) → AreInOrder es
    → list_any (λ (x : X). same_text (name x) q) (filter_map kind es) ≡ option_map_or (λ (s : S). is_some (kind (q, s))) (at_name es q) false
unfolding IsStrictlySortedBy
any_named name kind whose q [] sorted = refl
any_named {X} {S} name kind whose q (e ∷ es) sorted =
    head (kind e) refl
    ∙ ap (λ t. (t && is_some (kind e)) || rest) (sym (test_same e.0 q))
    ∙ (elim (is_eq (text_cmp q e.0)) as (λ b. is_eq (text_cmp q e.0) ≡ b → ((b && is_some (kind e)) || rest) ≡ option_map_or (λ (s : S). is_some (kind (q, s))) (cond b (Some e.1) (at_name es q)) false) [
      | true ↦ λ t.
          let here : q ≡ e.0 = same_name q e.0 t in
          let none : rest ≡ false =
          any_named name kind whose q es sorted.1 ∙ ap (λ (w : Option S). option_map_or (λ (s : S). is_some (kind (q, s))) w false) (subst (λ k. at_name es k ≡ None) (sym here) (at_above e.0 es sorted.0)) in
          ap (λ b. is_some (kind e) || b) none ∙ or_false (is_some (kind e)) ∙ ap (λ (k : Text). is_some (kind (k, e.1))) (sym here)
      | false ↦ λ t. any_named name kind whose q es sorted.1
    ] refl)
  where
    rest : Bool
    rest = list_any (λ (x : X). same_text (name x) q) (filter_map kind es)

    or_false : (b : Bool) → (b || false) ≡ b
    or_false true = refl
    or_false false = refl

    none_here : (b : Bool) → rest ≡ ((b && false) || rest)
    none_here true = refl
    none_here false = refl

    one_here : (b : Bool) → (b || rest) ≡ ((b && true) || rest)
    one_here true = refl
    one_here false = refl

    head : (o : Option X) → kind e ≡ o → list_any (λ (x : X). same_text (name x) q) (cons_option o (filter_map kind es)) ≡ ((same_text e.0 q && is_some o) || rest)
    head None h = none_here (same_text e.0 q)
    head (Some x) h = ap (λ k. same_text k q || rest) (whose e x h) ∙ one_here (same_text e.0 q)

-- a flight over a regulation has its key
comp_named : (test : Row → Bool) (r : Regulation) → HasName (λ (c : Comp). c.key) (λ (e : Text × Row). comp_if (test e.1) (subject e.1.plan r) e.0)
comp_named test r e x h = by (test e.1) (subject e.1.plan r) h
  where
    by : (b : Bool) (w : Option ℕ) → comp_if b w e.0 ≡ Some x → x.key ≡ e.0
    by true (Some eto) h = let k : Some e.0 ≡ Some x.key = ap (option_map (λ (c : Comp). c.key)) h in cc
    by true None h = cc
    by false w h = cc

-- a flight is among those that enter exactly if its row passes the test and is subject to the regulation
pub among_over : (test : Row → Bool) (r : Regulation) (q : Text) (rows : List (Text × Row)) → AreInOrder rows
    → enters_among q (flights_over test r rows) ≡ option_map_or (λ (row : Row). test row && is_some (subject row.plan r)) (at_name rows q) false
among_over test r q rows sorted =
    any-in_order is_before (λ (c : Comp). same_text c.key q) (filter_map (λ (e : Text × Row). comp_if (test e.1) (subject e.1.plan r) e.0) rows)
    ∙ any_named (λ (c : Comp). c.key) (λ (e : Text × Row). comp_if (test e.1) (subject e.1.plan r) e.0) (comp_named test r) q rows sorted
    ∙ by (at_name rows q)
  where
    to : (b : Bool) (w : Option ℕ) → is_some (comp_if b w q) ≡ (b && is_some w)
    to true None = refl
    to true (Some eto) = refl
    to false w = refl

    by : (w : Option Row) → option_map_or (λ (row : Row). is_some (comp_if (test row) (subject row.plan r) q)) w false ≡ option_map_or (λ (row : Row). test row && is_some (subject row.plan r)) w false
    by None = refl
    by (Some row) = to (test row) (subject row.plan r)

-- whether a test of its key passes for one of the flights over a regulation, by their rows
pub any_flights : (g : Text → Bool) (h test : Row → Bool) (r : Regulation) (rows : List (Text × Row))
    → AllByRecursion (λ (e : Text × Row). test e.1 ≡ true → (is_some (subject e.1.plan r) ≡ true) × (g e.0 ≡ h e.1)) rows
    → list_any (λ (c : Comp). g c.key) (flights_over test r rows) ≡ list_any (λ (e : Text × Row). test e.1 && h e.1) rows
any_flights g h test r rows all =
    any-in_order is_before (λ (c : Comp). g c.key) (filter_map (λ (e : Text × Row). comp_if (test e.1) (subject e.1.plan r) e.0) rows) ∙ each rows all
  where
    no_eto : is_some {T = ℕ} None ≡ true → ⊥
    no_eto h = cc

    one : (e : Text × Row) (b : Bool) (w : Option ℕ) (rest : List Comp) → (b ≡ true → (is_some w ≡ true) × (g e.0 ≡ h e.1))
        → list_any (λ (c : Comp). g c.key) (cons_option (comp_if b w e.0) rest) ≡ ((b && h e.1) || list_any (λ (c : Comp). g c.key) rest)
    one e false w rest f = refl
    one e true None rest f = absurd (no_eto (f refl).0)
    one e true (Some eto) rest f = ap (λ b. b || list_any (λ (c : Comp). g c.key) rest) (f refl).1

    each : (es : List (Text × Row)) → AllByRecursion (λ (e : Text × Row). test e.1 ≡ true → (is_some (subject e.1.plan r) ≡ true) × (g e.0 ≡ h e.1)) es
        → list_any (λ (c : Comp). g c.key) (filter_map (λ (e : Text × Row). comp_if (test e.1) (subject e.1.plan r) e.0) es) ≡ list_any (λ (e : Text × Row). test e.1 && h e.1) es
    each [] a = refl
    each (e ∷ es) a =
        one e (test e.1) (subject e.1.plan r) (filter_map (λ (e : Text × Row). comp_if (test e.1) (subject e.1.plan r) e.0) es) a.0
        ∙ ap (λ b. (test e.1 && h e.1) || b) (each es a.1)
