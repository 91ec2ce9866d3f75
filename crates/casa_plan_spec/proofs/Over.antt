-- what is made of the entries of a map is what is made of those that were written
use Rattle.std.proofs.Common.{◌≡◌, List, [], ◌∷◌, map, true, false, cond, refl, sym, ap, subst, ◌∙◌, Option, None, Some, unwrap_or}
use Rattle.std.specs.Option.{option_map, option_and_then}
use Rattle.std.specs.List.{filter_map, cons_option}
use Rattle.std.specs.List.Sorted.{IsStrictlySortedBy}
use Rattle.std.specs.Ordering.{is_eq}
use Rattle.casa_filing.specs.Text.{Text, at_name}
use Rattle.casa_flight.specs.Good.{AreInOrder}
use Rattle.casa_filing.proofs.Entries.{text_cmp, same_name}
use Rattle.casa_laws.proofs.Kept.{Above, at_above, same_entries}

-- what f makes of the entries, under their names
keyed : {X Y : Type 0} → (Text → X → Option Y) → List (Text × X) → List (Text × Y)
keyed f [] = []
keyed {X} {Y} f (e ∷ es) = cons_option (option_map (λ (y : Y). (e.0, y)) (f e.0 e.1)) (keyed f es)

values-keyed : {X Y : Type 0} (f : Text → X → Option Y) (es : List (Text × X)) → map (λ (e : Text × Y). e.1) (keyed f es) ≡ filter_map (λ (e : Text × X). f e.0 e.1) es
unfolding keyed
values-keyed f [] = refl
values-keyed {X} {Y} f (e ∷ es) =
    elim (f e.0 e.1) as (λ (o : Option Y). map (λ (e : Text × Y). e.1) (cons_option (option_map (λ (y : Y). (e.0, y)) o) (keyed f es)) ≡ cons_option o (filter_map (λ (e : Text × X). f e.0 e.1) es)) [
      | None ↦ values-keyed f es
      | Some y ↦ ap (λ (ys : List Y). y ∷ ys) (values-keyed f es)
    ]

above-keyed : {X Y : Type 0} (f : Text → X → Option Y) (k : Text) (es : List (Text × X)) → Above k es → Above k (keyed f es)
unfolding keyed
above-keyed f k [] h = tt
above-keyed {X} {Y} f k (e ∷ es) h =
    elim (f e.0 e.1) as (λ (o : Option Y). Above k (cons_option (option_map (λ (y : Y). (e.0, y)) o) (keyed f es))) [
      | None ↦ above-keyed f k es h.1
      | Some y ↦ (h.0, above-keyed f k es h.1)
    ]

sorted-keyed : {X Y : Type 0} (f : Text → X → Option Y) (es : List (Text × X)) → AreInOrder es → AreInOrder (keyed f es)
unfolding IsStrictlySortedBy keyed
sorted-keyed f [] h = tt
sorted-keyed {X} {Y} f (e ∷ es) h =
    elim (f e.0 e.1) as (λ (o : Option Y). AreInOrder (cons_option (option_map (λ (y : Y). (e.0, y)) o) (keyed f es))) [
      | None ↦ sorted-keyed f es h.1
      | Some y ↦ (above-keyed f e.0 es h.0, sorted-keyed f es h.1)
    ]

at-keyed : {X Y : Type 0} (f : Text → X → Option Y) (q : Text) (es : List (Text × X)) → AreInOrder es → at_name (keyed f es) q ≡ option_and_then (f q) (at_name es q)
unfolding IsStrictlySortedBy keyed
at-keyed f q [] h = refl
at-keyed {X} {Y} f q (e ∷ es) h =
    elim (is_eq (text_cmp q e.0)) as (λ b. is_eq (text_cmp q e.0) ≡ b → at_name (cons_option (option_map (λ (y : Y). (e.0, y)) (f e.0 e.1)) (keyed f es)) q ≡ option_and_then (f q) (cond b (Some e.1) (at_name es q))) [
      | true ↦ λ t.
          let here : q ≡ e.0 = same_name q e.0 t in
          (elim (f e.0 e.1) as (λ (o : Option Y). at_name (cons_option (option_map (λ (y : Y). (e.0, y)) o) (keyed f es)) q ≡ o) [
            | None ↦ subst (λ k. at_name (keyed f es) k ≡ None) (sym here) (at_above e.0 (keyed f es) (above-keyed f e.0 es h.0))
            | Some y ↦ ap (λ b. cond b (Some y) (at_name (keyed f es) q)) t
          ]) ∙ ap (λ k. f k e.1) (sym here)
      | false ↦ λ t.
          (elim (f e.0 e.1) as (λ (o : Option Y). at_name (cons_option (option_map (λ (y : Y). (e.0, y)) o) (keyed f es)) q ≡ at_name (keyed f es) q) [
            | None ↦ refl
            | Some y ↦ ap (λ b. cond b (Some y) (at_name (keyed f es) q)) t
          ]) ∙ at-keyed f q es h.1
    ] refl

-- where f makes nothing of what was not written, all that it makes is what it makes of the written entries
pub filter_map-over : {X Y : Type 0} (f : Text → X → Option Y) (es : List (Text × X)) (old : Text → Option X) (ws : List (Text × Option X)) → AreInOrder es → AreInOrder ws
    → ((q : Text) → unwrap_or (at_name ws q) (old q) ≡ at_name es q)
    → ((q : Text) (x : X) → at_name ws q ≡ None → at_name es q ≡ Some x → f q x ≡ None)
    → filter_map (λ (e : Text × X). f e.0 e.1) es ≡ filter_map (λ (e : Text × Option X). option_and_then (f e.0) e.1) ws
filter_map-over {X} {Y} f es old ws sorted written now none =
    let g : Text → Option X → Option Y = λ k o. option_and_then (f k) o in
    sym (values-keyed f es)
    ∙ ap (map (λ (e : Text × Y). e.1)) (same_entries (keyed f es) (keyed g ws) (sorted-keyed f es sorted) (sorted-keyed g ws written)
    (λ q. at-keyed f q es sorted ∙ by q (at_name ws q) refl ∙ sym (at-keyed g q ws written)))
    ∙ values-keyed g ws
  where
    left : (q : Text) → at_name ws q ≡ None → (w : Option X) → at_name es q ≡ w → option_and_then (f q) w ≡ None
    left q e None p = refl
    left q e (Some x) p = none q x e p

    by : (q : Text) (o : Option (Option X)) → at_name ws q ≡ o → option_and_then (f q) (at_name es q) ≡ option_and_then (λ (w : Option X). option_and_then (f q) w) o
    by q None e = left q e (at_name es q) refl
    by q (Some w) e = ap (option_and_then (f q)) (sym (now q) ∙ ap (λ (o : Option (Option X)). unwrap_or o (old q)) e)
