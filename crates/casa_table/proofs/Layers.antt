-- entries with changes over them: their order, and what a look-up finds
use Rattle.std.proofs.Common.{◌≡◌, List, [], ◌∷◌, ◌++◌, append_assoc, is_some, if◌then◌else◌, Bool, true, false, cond}
use Rattle.std.proofs.Common.{refl, sym, ap, ◌∙◌, Option, None, Some, subst, unwrap_or}
use Rattle.std.specs.declared.cmp.Ordering.{Ordering}
use Rattle.std.specs.declared.cmp.Ordering.TheVariants.{Less, Greater}
use Rattle.std.specs.Ordering.{is_eq, match_ordering, ordering_reverse}
use Rattle.std.specs.Option.{option_or}
use Rattle.std.specs.List.{AllByRecursion}
use Rattle.std.specs.List.Sorted.{IsStrictlySortedBy}
use Rattle.std.specs.Map.{keys_of}
use Rattle.std.proofs.lemmas.Cmp.{nat_list_cmp_total}
use Rattle.casa_filing.specs.Text.{Text, same_text, at_name, put, without}
use Rattle.casa_flight.specs.Good.{AreInOrder}
use Rattle.casa_filing.proofs.Entries.{text_cmp, same_name, named, at-put, at-without_other, sorted-put}
use Rattle.casa_filing.proofs.Entries.{sorted-remove}
use Rattle.casa_laws.proofs.Kept.{at_above, at-without_same, same_entries}
use Rattle.casa_named.proofs.Found.{same_test}
use Rattle.casa_table.specs.Laid.{where_put, with_value, with_changes}

pub sorted-with_value : {X : Type 0} (k : Text) (w : Option X) (es : List (Text × X)) → AreInOrder es
    → AreInOrder (with_value es k w)
sorted-with_value k None es h = sorted-remove _ es h
sorted-with_value k (Some x) es h = sorted-put k x es h

pub sorted-laid : {X : Type 0} (ws : List (Text × Option X)) (es : List (Text × X)) → AreInOrder es
    → AreInOrder (with_changes ws es)
sorted-laid [] es h = h
sorted-laid (w ∷ ws) es h = sorted-laid ws (with_value es w.0 w.1) (sorted-with_value w.0 w.1 es h)

at-with_value : {X : Type 0} (q k : Text) (w : Option X) (es : List (Text × X)) → AreInOrder es
    → at_name (with_value es k w) q ≡ cond (is_eq (text_cmp q k)) w (at_name es q)
at-with_value q k (Some x) es h = at-put q k x es
at-with_value {X} q k None es h =
    elim (is_eq (text_cmp q k)) as
    (λ b. is_eq (text_cmp q k) ≡ b → at_name (without es k) q ≡ cond b None (at_name es q)) [
      | true ↦ λ t. subst (λ (p : Text). at_name (without es k) p ≡ None) (sym (same_name q k t))
          (at-without_same k es h)
      | false ↦ λ t. at-without_other q k es t
    ] refl

-- a look-up looks among the changes first
pub at-laid : {X : Type 0} (q : Text) (ws : List (Text × Option X)) (es : List (Text × X)) → AreInOrder ws
    → AreInOrder es
    → at_name (with_changes ws es) q ≡ unwrap_or (at_name ws q) (at_name es q)
unfolding IsStrictlySortedBy
at-laid q [] es g h = refl
at-laid {X} q (w ∷ ws) es g h =
    at-laid q ws (with_value es w.0 w.1) g.1 (sorted-with_value w.0 w.1 es h)
    ∙ ap (unwrap_or (at_name ws q)) (at-with_value q w.0 w.1 es h)
    ∙ by (is_eq (text_cmp q w.0)) refl
  where
    by : (b : Bool) → is_eq (text_cmp q w.0) ≡ b
        → unwrap_or (at_name ws q) (cond b w.1 (at_name es q))
        ≡ unwrap_or (cond b (Some w.1) (at_name ws q)) (at_name es q)
    by true t =
        ap (λ (o : Option (Option X)). unwrap_or o w.1)
        (subst (λ (p : Text). at_name ws p ≡ None) (sym (same_name q w.0 t)) (at_above w.0 ws g.0))
    by false t = refl

pub at-below : {X : Type 0} (q : Text) (ws : List (Text × Option X)) (es : List (Text × X)) → AreInOrder ws
    → AreInOrder es
    → at_name ws q ≡ None → at_name (with_changes ws es) q ≡ at_name es q
at-below {X} q ws es g h none =
    at-laid q ws es g h ∙ ap (λ (o : Option (Option X)). unwrap_or o (at_name es q)) none

-- a change that is made before others which have it leads to the same
pub made-before : {X : Type 0} (k : Text) (w : Option X) (ws : List (Text × Option X)) (es : List (Text × X))
    → AreInOrder ws → AreInOrder es
    → at_name ws k ≡ Some w → with_changes ws (with_value es k w) ≡ with_changes ws es
made-before {X} k w ws es g h there =
    same_entries _ _ (sorted-laid ws (with_value es k w) (sorted-with_value k w es h)) (sorted-laid ws es h)
    (λ q. at-laid q ws (with_value es k w) g (sorted-with_value k w es h) ∙ by q (is_eq (text_cmp q k)) refl
    ∙ sym (at-laid q ws es g h))
  where
    by : (q : Text) (b : Bool) → is_eq (text_cmp q k) ≡ b
        → unwrap_or (at_name ws q) (at_name (with_value es k w) q) ≡ unwrap_or (at_name ws q) (at_name es q)
    by q true t =
        let here : at_name ws q ≡ Some w = ap (at_name ws) (same_name q k t) ∙ there in
        (λ i. unwrap_or (here i) (at_name (with_value es k w) q)) ∙ (λ i. unwrap_or (sym here i) (at_name es q))
    by q false t =
        ap (unwrap_or (at_name ws q)) (at-with_value q k w es h ∙ ap (λ b. cond b w (at_name es q)) t)

-- entries that are laid in two layers
module _ {X : Type 0} (ws : List (Text × Option X)) (es all : List (Text × X)) (is : with_changes ws es ≡ all)
    (order : AreInOrder es) where
  pub sorted-layers : AreInOrder all
  sorted-layers = subst (λ (fs : List (Text × X)). AreInOrder fs) is (sorted-laid ws es order)

  pub found-change : AreInOrder ws → (q : Text) (w : Option X) → at_name ws q ≡ Some w → w ≡ at_name all q
  found-change g q w there =
      sym (at-laid q ws es g order ∙ ap (λ (o : Option (Option X)). unwrap_or o (at_name es q)) there)
      ∙ ap (λ (fs : List (Text × X)). at_name fs q) is

  pub found-below : AreInOrder ws → (q : Text) → at_name ws q ≡ None → at_name es q ≡ at_name all q
  found-below g q none =
      sym (at-below q ws es g order none) ∙ ap (λ (fs : List (Text × X)). at_name fs q) is

over_over : {X : Type 0} (a b : Option (Option X)) (c : Option X)
    → unwrap_or (option_or a b) c ≡ unwrap_or a (unwrap_or b c)
over_over None b c = refl
over_over (Some x) b c = refl

-- changes that keep the earlier ones lead to what the changes lead to after the earlier ones
pub laid-over : {X : Type 0} (ws vs both : List (Text × Option X)) (es : List (Text × X))
    → AreInOrder ws → AreInOrder vs → AreInOrder both → AreInOrder es
    → ((q : Text) → at_name both q ≡ option_or (at_name ws q) (at_name vs q))
    → with_changes both es ≡ with_changes ws (with_changes vs es)
laid-over ws vs both es f g h order over =
    same_entries _ _ (sorted-laid both es order) (sorted-laid ws (with_changes vs es) (sorted-laid vs es order))
    (λ q. at-laid q both es h order ∙ (λ i. unwrap_or (over q i) (at_name es q))
    ∙ over_over (at_name ws q) (at_name vs q) (at_name es q)
    ∙ (λ i. unwrap_or (at_name ws q) (sym (at-laid q vs es g order) i))
    ∙ sym (at-laid q ws (with_changes vs es) f (sorted-laid vs es order)))

-- what holds of all names holds of one among them
pub all-mid : {X : Type 0} (P : Text → Type 0) (p : List (Text × X)) (k : Text) (v : X) (rest : List (Text × X))
    → AllByRecursion P (keys_of (p ++ (k, v) ∷ rest)) → P k
all-mid P [] k v rest h = h.0
all-mid P (e ∷ p) k v rest h = all-mid P p k v rest h.1

-- an entry whose name comes after all others is put last
pub put-last : {X : Type 0} (p : List (Text × X)) (k : Text) (v : X) (rest : List (Text × X))
    → AreInOrder (p ++ (k, v) ∷ rest) → put p k v ≡ p ++ (k, v) ∷ []
unfolding IsStrictlySortedBy
put-last [] k v rest h = refl
put-last {X} (e ∷ p) k v rest h =
    let later : text_cmp k e.0 ≡ Greater =
    nat_list_cmp_total.antisymm k e.0 ∙ ap ordering_reverse (all-mid (λ y. text_cmp e.0 y ≡ Less) p k v rest h.0) in
    ap (λ (r : Ordering). match_ordering r ((k, v) ∷ e ∷ p) ((e.0, v) ∷ p) (e ∷ put p k v)) later
    ∙ ap (λ (es : List (Text × X)). e ∷ es) (put-last p k v rest h.1)

-- what stands under each name after a change
pub where-put : {X : Type 0} (P : (Text → Option X) → Type 0) (k : Text) (w : Option X) (es fs : List (Text × X))
    → AreInOrder es → fs ≡ with_value es k w → P (where_put (at_name es) k w) → P (at_name fs)
where-put {X} P k w es fs order is h =
    subst P (λ i q. same q i) h
  where
    same : (q : Text) → where_put (at_name es) k w q ≡ at_name fs q
    same q =
        ap (λ b. cond b w (at_name es q)) (sym (same_test k q)) ∙ sym (at-with_value q k w es order)
        ∙ ap (λ (gs : List (Text × X)). at_name gs q) (sym is)

-- a copy that has the first entries, once the next one is put in
pub put-next : {X : Type 0} (copy es rest all : List (Text × X)) (k : Text) (v w : X) → AreInOrder all → w ≡ v
    → es ≡ (k, v) ∷ rest
    → copy ++ es ≡ all → put copy k w ++ rest ≡ all
put-next {X} copy es rest all k v w order same next h =
    let here : copy ++ (k, v) ∷ rest ≡ all = ap (λ (fs : List (Text × X)). copy ++ fs) (sym next) ∙ h in
    ap (λ (x : X). put copy k x ++ rest) same
    ∙ ap (λ (fs : List (Text × X)). fs ++ rest)
    (put-last copy k v rest (subst (λ (fs : List (Text × X)). AreInOrder fs) (sym here) order))
    ∙ append_assoc copy ((k, v) ∷ []) rest ∙ here

-- changes with an earlier one, unless there is another under its name
option_or_none : {A : Type 0} (a : Option A) → option_or a None ≡ a
option_or_none None = refl
option_or_none (Some x) = refl

or_else : {A : Type 0} (a : Option A) (b : Bool) (x : A) (c : Option A)
    → option_or (option_or a (if b then Some x else None)) c ≡ option_or a (cond b (Some x) c)
or_else None true x c = refl
or_else None false x c = refl
or_else (Some y) b x c = refl

pub kept-next : {Y : Type 0} (q k : Text) (w : Y) (a : Option Y) (rest : List (Text × Y))
    → option_or (option_or a (if same_text k q then Some w else None)) (at_name rest q)
    ≡ option_or a (at_name ((k, w) ∷ rest) q)
kept-next {Y} q k w a rest =
    or_else a (same_text k q) w (at_name rest q)
    ∙ ap (λ b. option_or a (cond b (Some w) (at_name rest q))) (sym (same_test k q))

pub kept-none : {A : Type 0} (a b : Option A) → option_or a None ≡ b → a ≡ b
kept-none a b h = sym (option_or_none a) ∙ h

pub kept-put : {Y : Type 0} (es : List (Text × Y)) (k q : Text) (w : Y) → is_some (at_name es k) ≡ false
    → at_name (put es k w) q ≡ option_or (at_name es q) (if same_text k q then Some w else None)
kept-put {Y} es k q w h =
    at-put q k w es ∙ ap (λ b. cond b (Some w) (at_name es q)) (same_test k q) ∙ by (same_text k q) refl
  where
    absent : (o : Option Y) → is_some o ≡ false → Some w ≡ option_or o (Some w)
    absent None t = refl
    absent (Some x) t = cc

    by : (b : Bool) → same_text k q ≡ b
        → cond b (Some w) (at_name es q) ≡ option_or (at_name es q) (if b then Some w else None)
    by true t = subst (λ (p : Text). Some w ≡ option_or (at_name es p) (Some w)) (named k q t) (absent (at_name es k) h)
    by false t = sym (option_or_none (at_name es q))

-- to put what stands there already changes nothing
pub put-there : {X : Type 0} (k : Text) (v : X) (es : List (Text × X)) → AreInOrder es → at_name es k ≡ Some v
    → put es k v ≡ es
put-there {X} k v es order there =
    same_entries (put es k v) es (sorted-put k v es order) order (λ q. at-put q k v es ∙ by q (is_eq (text_cmp q k)) refl)
  where
    by : (q : Text) (b : Bool) → is_eq (text_cmp q k) ≡ b → cond b (Some v) (at_name es q) ≡ at_name es q
    by q true t = sym (ap (at_name es) (same_name q k t) ∙ there)
    by q false t = refl
