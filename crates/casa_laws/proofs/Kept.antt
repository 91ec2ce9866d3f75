-- the kept entries of a map, once an entry of the map is written or removed, and maps with the same look-ups
use Rattle.std.proofs.Common.{◌≡◌, arith, List, [], ◌∷◌, map, true, false, cond, refl, sym, ap, subst, ◌∙◌, Option, None, Some}
use Rattle.std.specs.declared.cmp.Ordering.TheVariants.{Less, Equal, Greater}
use Rattle.std.specs.Ordering.{is_eq, match_ordering, ordering_reverse}
use Rattle.std.specs.Option.{option_map, option_and_then, option_or}
use Rattle.std.specs.BTreeMap.{is_at}
use Rattle.std.specs.List.{AllByRecursion, Contains, cons_option, filter_map, fold}
use Rattle.std.specs.List.Sorted.{IsStrictlySortedBy}
use Rattle.std.specs.Map.{keys_of}
use Rattle.casa_filing.specs.Text.{Text, at_name, put, without}
use Rattle.casa_flight.specs.Good.{AreInOrder}
use Rattle.casa_flight.specs.Listing.{filter_map_values}
use Rattle.std.proofs.lemmas.Cmp.{nat_list_cmp_total, tied_itself}
use Rattle.std.proofs.lemmas.List.Elements.{Contains-append_right}
use Rattle.casa_filing.proofs.Entries.{text_cmp, same_name, itself, after_all, at-put, sorted-put, sorted-remove, at-without_other}

-- the entries with this value under the name, or with none
abbrev pub set_at : {X : Type 0} → List (Text × X) → Text → Option X → List (Text × X)
set_at es k None = without es k
set_at es k (Some x) = put es k x

-- the entries behind one with this name and value, or behind none
abbrev behind : {X : Type 0} → Text → Option X → List (Text × X) → List (Text × X)
behind {X} k w es = cons_option (option_map (λ (x : X). (k, x)) w) es

-- each name comes after k
abbrev pub Above : {X : Type 0} → Text → List (Text × X) → Type 0
Above k es = AllByRecursion (λ q. text_cmp k q ≡ Less) (keys_of es)

above-behind : {X : Type 0} (k q : Text) (w : Option X) (es : List (Text × X)) → text_cmp k q ≡ Less → Above k es → Above k (behind q w es)
above-behind k q None es less h = h
above-behind k q (Some x) es less h = (less, h)

-- the values that f gives of the entries and their names; `filter_map_values` is so, with an f that does not look at names
abbrev pub kept_by : {X Y : Type 0} → (Text → X → Option Y) → List (Text × X) → List (Text × Y)
kept_by {X} {Y} f es = filter_map (λ (e : Text × X). option_map (λ (y : Y). (e.0, y)) (f e.0 e.1)) es

pub above-kept_by : {X Y : Type 0} (f : Text → X → Option Y) (k : Text) (es : List (Text × X)) → Above k es → Above k (kept_by f es)
above-kept_by f k [] h = tt
above-kept_by f k (e ∷ es) h = above-behind k e.0 (f e.0 e.1) (kept_by f es) h.0 (above-kept_by f k es h.1)

pub above-kept : {X Y : Type 0} (f : X → Option Y) (k : Text) (es : List (Text × X)) → Above k es → Above k (filter_map_values f es)
above-kept {X} f k es h = above-kept_by (λ (q : Text) (x : X). f x) k es h

sorted-behind : {X : Type 0} (k : Text) (w : Option X) (es : List (Text × X)) → Above k es → AreInOrder es → AreInOrder (behind k w es)
unfolding IsStrictlySortedBy
sorted-behind k None es above h = h
sorted-behind k (Some x) es above h = (above, h)

-- the values alone
pub values_kept : {X Y : Type 0} (f : Text → X → Option Y) (es : List (Text × X)) → filter_map (λ (e : Text × X). f e.0 e.1) es ≡ map (λ (e : Text × Y). e.1) (kept_by f es)
values_kept f [] = refl
values_kept {X} {Y} f (e ∷ es) =
    elim (f e.0 e.1) as (λ (w : Option Y). cons_option w (filter_map (λ (e : Text × X). f e.0 e.1) es) ≡ map (λ (e : Text × Y). e.1) (cons_option (option_map (λ (y : Y). (e.0, y)) w) (kept_by f es))) [
      | None ↦ values_kept f es
      | Some y ↦ ap (λ ys. y ∷ ys) (values_kept f es)
    ]

-- what is kept stays in order
pub sorted-kept_by : {X Y : Type 0} (f : Text → X → Option Y) (es : List (Text × X)) → AreInOrder es → AreInOrder (kept_by f es)
unfolding IsStrictlySortedBy
sorted-kept_by f [] h = tt
sorted-kept_by f (e ∷ es) h = sorted-behind e.0 (f e.0 e.1) (kept_by f es) (above-kept_by f e.0 es h.0) (sorted-kept_by f es h.1)

pub sorted-kept : {X Y : Type 0} (f : X → Option Y) (es : List (Text × X)) → AreInOrder es → AreInOrder (filter_map_values f es)
sorted-kept {X} f es h = sorted-kept_by (λ (q : Text) (x : X). f x) es h

-- before all names, an entry is put in front, and none is removed
set_above : {X : Type 0} (k : Text) (w : Option X) (es : List (Text × X)) → Above k es → set_at es k w ≡ behind k w es
set_above k None [] h = refl
set_above k (Some x) [] h = refl
set_above k None (e ∷ es) h = ap (λ r. cond (is_eq r) es (e ∷ without es k)) h.0 ∙ ap (λ ys. e ∷ ys) (set_above k None es h.1)
set_above k (Some x) (e ∷ es) h = ap (λ r. match_ordering r ((k, x) ∷ e ∷ es) ((e.0, x) ∷ es) (e ∷ put es k x)) h.0

pub at_above : {X : Type 0} (k : Text) (es : List (Text × X)) → Above k es → at_name es k ≡ None
at_above k [] h = refl
at_above k (e ∷ es) h = ap (λ r. cond (is_eq r) (Some e.1) (at_name es k)) h.0 ∙ at_above k es h.1

-- at the entry with the same name
set_same : {X : Type 0} (k q : Text) → k ≡ q → (v w : Option X) (es : List (Text × X)) → Above q es → set_at (behind q v es) k w ≡ behind q w es
set_same {X} k q e v w es h = subst (λ t. set_at (behind q v es) t w ≡ behind q w es) (sym e) (here v w)
  where
    here : (v w : Option X) → set_at (behind q v es) q w ≡ behind q w es
    here None w = set_above q w es h
    here (Some v) None = ap (λ b. cond b es ((q, v) ∷ without es q)) (itself q)
    here (Some v) (Some w) = ap (λ r. match_ordering r ((q, w) ∷ (q, v) ∷ es) ((q, w) ∷ es) ((q, v) ∷ put es q w)) (tied_itself nat_list_cmp_total q)

-- past an entry with an earlier name
put_past : {X : Type 0} (k q : Text) → text_cmp k q ≡ Greater → (v : Option X) (w : X) (es : List (Text × X)) → put (behind q v es) k w ≡ behind q v (put es k w)
put_past k q p None w es = refl
put_past k q p (Some v) w es = ap (λ r. match_ordering r ((k, w) ∷ (q, v) ∷ es) ((q, w) ∷ es) ((q, v) ∷ put es k w)) p

-- past an entry with another name
without_past : {X : Type 0} (k q : Text) → is_eq (text_cmp k q) ≡ false → (v : Option X) (es : List (Text × X)) → without (behind q v es) k ≡ behind q v (without es k)
without_past k q p None es = refl
without_past k q p (Some v) es = ap (λ b. cond b es ((q, v) ∷ without es k)) p

set_past : {X : Type 0} (k q : Text) → text_cmp k q ≡ Greater → (v w : Option X) (es : List (Text × X)) → set_at (behind q v es) k w ≡ behind q v (set_at es k w)
set_past k q p v None es = without_past k q (ap is_eq p) v es
set_past k q p v (Some w) es = put_past k q p v w es

-- what is kept once an entry is written
pub kept-put : {X Y : Type 0} (f : X → Option Y) (k : Text) (x : X) (es : List (Text × X)) → AreInOrder es → filter_map_values f (put es k x) ≡ set_at (filter_map_values f es) k (f x)
unfolding IsStrictlySortedBy
kept-put f k x [] h = sym (set_above k (f x) [] tt)
kept-put f k x (e ∷ es) h =
    elim (text_cmp k e.0) as (λ r. text_cmp k e.0 ≡ r → filter_map_values f (match_ordering r ((k, x) ∷ e ∷ es) ((e.0, x) ∷ es) (e ∷ put es k x)) ≡ set_at (filter_map_values f (e ∷ es)) k (f x)) [
      | Less ↦ λ p. sym (set_above k (f x) (filter_map_values f (e ∷ es)) (above-kept f k (e ∷ es) (p, after_all k e.0 p (keys_of es) h.0)))
      | Equal ↦ λ p. sym (set_same k e.0 (same_name k e.0 (ap is_eq p)) (f e.1) (f x) (filter_map_values f es) (above-kept f e.0 es h.0))
      | Greater ↦ λ p. ap (behind e.0 (f e.1)) (kept-put f k x es h.1) ∙ sym (set_past k e.0 p (f e.1) (f x) (filter_map_values f es))
    ] refl

-- what is kept once an entry is removed
pub kept-without : {X Y : Type 0} (f : X → Option Y) (k : Text) (es : List (Text × X)) → AreInOrder es → filter_map_values f (without es k) ≡ without (filter_map_values f es) k
unfolding IsStrictlySortedBy
kept-without f k [] h = refl
kept-without f k (e ∷ es) h =
    elim (is_eq (text_cmp k e.0)) as (λ b. is_eq (text_cmp k e.0) ≡ b → filter_map_values f (cond b es (e ∷ without es k)) ≡ without (filter_map_values f (e ∷ es)) k) [
      | true ↦ λ p. sym (set_same k e.0 (same_name k e.0 p) (f e.1) None (filter_map_values f es) (above-kept f e.0 es h.0))
      | false ↦ λ p. ap (behind e.0 (f e.1)) (kept-without f k es h.1) ∙ sym (without_past k e.0 p (f e.1) (filter_map_values f es))
    ] refl

at_same : {X : Type 0} (k q : Text) → k ≡ q → (v : Option X) (es : List (Text × X)) → Above q es → at_name (behind q v es) k ≡ v
at_same k q e None es h = subst (λ t. at_name es t ≡ None) (sym e) (at_above q es h)
at_same k q e (Some v) es h = ap (λ b. cond b (Some v) (at_name es k)) (subst (λ t. is_eq (text_cmp k t) ≡ true) e (itself k))

at_past : {X : Type 0} (k q : Text) → is_eq (text_cmp k q) ≡ false → (v : Option X) (es : List (Text × X)) → at_name (behind q v es) k ≡ at_name es k
at_past k q p None es = refl
at_past k q p (Some v) es = ap (λ b. cond b (Some v) (at_name es k)) p

-- what is kept under a name is what f gives of the value there
pub at-kept_by : {X Y : Type 0} (f : Text → X → Option Y) (k : Text) (es : List (Text × X)) → AreInOrder es → at_name (kept_by f es) k ≡ option_and_then (f k) (at_name es k)
unfolding IsStrictlySortedBy
at-kept_by f k [] h = refl
at-kept_by f k (e ∷ es) h =
    elim (is_eq (text_cmp k e.0)) as (λ b. is_eq (text_cmp k e.0) ≡ b → at_name (kept_by f (e ∷ es)) k ≡ option_and_then (f k) (cond b (Some e.1) (at_name es k))) [
      | true ↦ λ p.
          at_same k e.0 (same_name k e.0 p) (f e.0 e.1) (kept_by f es) (above-kept_by f e.0 es h.0) ∙ ap (λ (t : Text). f t e.1) (sym (same_name k e.0 p))
      | false ↦ λ p. at_past k e.0 p (f e.0 e.1) (kept_by f es) ∙ at-kept_by f k es h.1
    ] refl

pub at-kept : {X Y : Type 0} (f : X → Option Y) (k : Text) (es : List (Text × X)) → AreInOrder es → at_name (filter_map_values f es) k ≡ option_and_then f (at_name es k)
at-kept {X} f k es h = at-kept_by (λ (q : Text) (x : X). f x) k es h

-- a name that is not there cannot be removed
pub without_absent : {X : Type 0} (k : Text) (es : List (Text × X)) → at_name es k ≡ None → without es k ≡ es
without_absent k [] h = refl
without_absent {X} k (e ∷ es) h =
    elim (is_eq (text_cmp k e.0)) as (λ b. cond b (Some e.1) (at_name es k) ≡ None → cond b es (e ∷ without es k) ≡ e ∷ es) [
      | true ↦ λ found. cc
      | false ↦ λ found. ap (λ ys. e ∷ ys) (without_absent k es found)
    ] h

-- a removed name is not found
pub at-without_same : {X : Type 0} (k : Text) (es : List (Text × X)) → AreInOrder es → at_name (without es k) k ≡ None
unfolding IsStrictlySortedBy
at-without_same k [] h = refl
at-without_same {X} k (e ∷ es) h =
    elim (is_eq (text_cmp k e.0)) as (λ b. is_eq (text_cmp k e.0) ≡ b → at_name (cond b es (e ∷ without es k)) k ≡ None) [
      | true ↦ λ p. subst (λ t. at_name es t ≡ None) (sym (same_name k e.0 p)) (at_above e.0 es h.0)
      | false ↦ λ p. ap (λ b. cond b (Some e.1) (at_name (without es k) k)) p ∙ at-without_same k es h.1
    ] refl

-- what an entry gives is among what is kept
contains-later : {Y : Type 0} (w : Option Y) (ys : List Y) (y : Y) → Contains ys y → Contains (cons_option w ys) y
contains-later None ys y h = h
contains-later (Some z) ys y h = Contains-append_right (z ∷ []) ys y h

contains-first : {Y : Type 0} (w : Option Y) (ys : List Y) (y : Y) → w ≡ Some y → Contains (cons_option w ys) y
contains-first None ys y h = cc
contains-first (Some z) ys y h = let same : z ≡ y = cc in (0, omega arith, same)

pub contains-given : {X Y : Type 0} (g : Text × X → Option Y) (k : Text) (v : X) (y : Y) (es : List (Text × X)) → at_name es k ≡ Some v → g (k, v) ≡ Some y → Contains (filter_map g es) y
contains-given g k v y [] found h = cc
contains-given {X} {Y} g k v y (e ∷ es) found h =
    elim (is_eq (text_cmp k e.0)) as (λ b. is_eq (text_cmp k e.0) ≡ b → cond b (Some e.1) (at_name es k) ≡ Some v → Contains (filter_map g (e ∷ es)) y) [
      | true ↦ λ t f.
          let value : e.1 ≡ v = cc in
          let here : g e ≡ Some y = (λ i. g (sym (same_name k e.0 t) i, value i)) ∙ h in
          contains-first (g e) (filter_map g es) y here
      | false ↦ λ t f. contains-later (g e) (filter_map g es) y (contains-given g k v y es f h)
    ] refl found

-- where h gives nothing at other names, all that it gives is what it gives at this one
none_above : {X Z : Type 0} (h : Text × X → Option Z) (k : Text) (es : List (Text × X)) → Above k es → AllByRecursion (λ (e : Text × X). is_eq (text_cmp k e.0) ≡ false → h e ≡ None) es → filter_map h es ≡ []
none_above h k [] above n = refl
none_above h k (e ∷ es) above n = ap (λ w. cons_option w (filter_map h es)) (n.0 (ap is_eq above.0)) ∙ none_above h k es above.1 n.1

pub filter_map-one : {X Z : Type 0} (h : Text × X → Option Z) (k : Text) (es : List (Text × X)) → AreInOrder es → AllByRecursion (λ (e : Text × X). is_eq (text_cmp k e.0) ≡ false → h e ≡ None) es
    → filter_map h es ≡ cons_option (option_and_then (λ (x : X). h (k, x)) (at_name es k)) []
unfolding IsStrictlySortedBy
filter_map-one h k [] sorted n = refl
filter_map-one {X} {Z} h k (e ∷ es) sorted n =
    elim (is_eq (text_cmp k e.0)) as (λ b. is_eq (text_cmp k e.0) ≡ b → filter_map h (e ∷ es) ≡ cons_option (option_and_then (λ (x : X). h (k, x)) (cond b (Some e.1) (at_name es k))) []) [
      | true ↦ λ p.
          let here : k ≡ e.0 = same_name k e.0 p in
          ap (λ (zs : List Z). cons_option (h e) zs) (none_above h k es (subst (λ t. Above t es) (sym here) sorted.0) n.1) ∙ ap (λ (t : Text). cons_option (h (t, e.1)) []) (sym here)
      | false ↦ λ p. ap (λ (w : Option Z). cons_option w (filter_map h es)) (n.0 p) ∙ filter_map-one h k es sorted.1 n.1
    ] refl

-- maps in order with the same look-ups are the same
found_head : {X : Type 0} (e : Text × X) (es : List (Text × X)) → at_name (e ∷ es) e.0 ≡ Some e.1
found_head e es = ap (λ b. cond b (Some e.1) (at_name es e.0)) (itself e.0)

some_or_none : {X : Type 0} {P : Type 0} (x : X) (w : Option X) → w ≡ Some x → w ≡ None → P
some_or_none x w p q = let both : Some x ≡ None = sym p ∙ q in cc

same_tails : {X : Type 0} (q a b : Text) → a ≡ b → (x y : X) (es fs : List (Text × X)) → Above a es → Above b fs → at_name ((a, x) ∷ es) q ≡ at_name ((b, y) ∷ fs) q → at_name es q ≡ at_name fs q
same_tails {X} q a b same x y es fs above over found =
    elim (is_eq (text_cmp q a)) as (λ t. is_eq (text_cmp q a) ≡ t → at_name es q ≡ at_name fs q) [
      | true ↦ λ p.
          subst (λ t. at_name es t ≡ at_name fs t) (sym (same_name q a p)) (at_above a es above ∙ sym (subst (λ t. at_name fs t ≡ None) (sym same) (at_above b fs over)))
      | false ↦ λ p.
          sym (ap (λ t. cond t (Some x) (at_name es q)) p) ∙ found ∙ ap (λ t. cond t (Some y) (at_name fs q)) (ap (λ c. is_eq (text_cmp q c)) (sym same) ∙ p)
    ] refl

pub same_entries : {X : Type 0} (es fs : List (Text × X)) → AreInOrder es → AreInOrder fs → ((q : Text) → at_name es q ≡ at_name fs q) → es ≡ fs
unfolding IsStrictlySortedBy
same_entries [] [] h g found = refl
same_entries [] (f ∷ fs) h g found = some_or_none f.1 (at_name (f ∷ fs) f.0) (found_head f fs) (sym (found f.0))
same_entries (e ∷ es) [] h g found = some_or_none e.1 (at_name (e ∷ es) e.0) (found_head e es) (found e.0)
same_entries {X} (e ∷ es) (f ∷ fs) h g found =
    elim (text_cmp e.0 f.0) as (λ r. text_cmp e.0 f.0 ≡ r → e ∷ es ≡ f ∷ fs) [
      | Less ↦ λ p. some_or_none e.1 (at_name (e ∷ es) e.0) (found_head e es) (found e.0 ∙ at_above e.0 (f ∷ fs) (p, after_all e.0 f.0 p (keys_of fs) g.0))
      | Greater ↦ λ p.
          let less : text_cmp f.0 e.0 ≡ Less = nat_list_cmp_total.antisymm f.0 e.0 ∙ ap ordering_reverse p in
          some_or_none f.1 (at_name (f ∷ fs) f.0) (found_head f fs) (sym (found f.0) ∙ at_above f.0 (e ∷ es) (less, after_all f.0 e.0 less (keys_of es) h.0))
      | Equal ↦ λ p.
          let names : e.0 ≡ f.0 = same_name e.0 f.0 (ap is_eq p) in
          let values : Some e.1 ≡ Some f.1 = sym (found_head e es) ∙ found e.0 ∙ subst (λ t. at_name (f ∷ fs) t ≡ Some f.1) (sym names) (found_head f fs) in
          let value : e.1 ≡ f.1 = cc in
          let rest : es ≡ fs = same_entries es fs h.1 g.1 (λ q. same_tails q e.0 f.0 names e.1 f.1 es fs h.0 g.0 (found q)) in
          λ i. (names i, value i) ∷ rest i
    ] refl

-- what is put in place of an entry is put in as well where that was taken out before
pub put-without : {X : Type 0} (k : Text) (x : X) (es : List (Text × X)) → AreInOrder es → put (without es k) k x ≡ put es k x
put-without {X} k x es h =
    same_entries (put (without es k) k x) (put es k x) (sorted-put k x (without es k) (sorted-remove (is_at (text_cmp k)) es h)) (sorted-put k x es h)
    (λ q. at-put q k x (without es k)
    ∙ (elim (is_eq (text_cmp q k)) as (λ b. is_eq (text_cmp q k) ≡ b → cond b (Some x) (at_name (without es k) q) ≡ cond b (Some x) (at_name es q)) [
      | true ↦ λ t. refl
      | false ↦ λ t. at-without_other q k es t
    ] refl)
    ∙ sym (at-put q k x es))

-- an entry that is put in again as it is
pub put_same : {X : Type 0} (k : Text) (x : X) (es : List (Text × X)) → AreInOrder es → at_name es k ≡ Some x → put es k x ≡ es
put_same {X} k x es h found =
    same_entries (put es k x) es (sorted-put k x es h) h
    (λ q. at-put q k x es
    ∙ (elim (is_eq (text_cmp q k)) as (λ b. is_eq (text_cmp q k) ≡ b → cond b (Some x) (at_name es q) ≡ at_name es q) [
      | true ↦ λ t. sym (subst (λ p. at_name es p ≡ Some x) (sym (same_name q k t)) found)
      | false ↦ λ t. refl
    ] refl))

-- a name that is set to what it has already
pub set_at_same : {X : Type 0} (k : Text) (w : Option X) (es : List (Text × X)) → AreInOrder es → at_name es k ≡ w → set_at es k w ≡ es
set_at_same k None es h found = without_absent k es found
set_at_same k (Some x) es h found = put_same k x es h found

-- the entries with others put in one by one
abbrev pub put_all : {X : Type 0} → List (Text × X) → List (Text × X) → List (Text × X)
put_all {X} es fs = fold (λ (a : List (Text × X)) (e : Text × X). put a e.0 e.1) es fs

-- a look-up among these
pub at-put_all : {X : Type 0} (es fs : List (Text × X)) (q : Text) → AreInOrder fs → at_name (put_all es fs) q ≡ option_or (at_name fs q) (at_name es q)
unfolding IsStrictlySortedBy
at-put_all es [] q h = refl
at-put_all {X} es (e ∷ fs) q h =
    at-put_all (put es e.0 e.1) fs q h.1
    ∙ ap (option_or (at_name fs q)) (at-put q e.0 e.1 es)
    ∙ (elim (is_eq (text_cmp q e.0)) as (λ b. is_eq (text_cmp q e.0) ≡ b → option_or (at_name fs q) (cond b (Some e.1) (at_name es q)) ≡ option_or (cond b (Some e.1) (at_name fs q)) (at_name es q)) [
      | true ↦ λ t. ap (λ (w : Option X). option_or w (Some e.1)) (subst (λ k. at_name fs k ≡ None) (sym (same_name q e.0 t)) (at_above e.0 fs h.0))
      | false ↦ λ t. refl
    ] refl)
