-- a list put in order: it has the same elements, and each comes before all later ones
use Rattle.std.proofs.Common.{◌≡◌, ◌↔◌, List, [], ◌∷◌, map, Bool, true, false, refl, sym, subst, ◌⊎◌, inl, inr, Option, None, Some, arith}
use Rattle.std.specs.declared.cmp.Ordering.TheVariants.{Less}
use Rattle.std.specs.List.{AllByRecursion, AllPairs, Contains, cons_option, filter_map, fold}
use Rattle.std.specs.List.Sorted.{IsStrictlySortedBy}
use Rattle.std.proofs.lemmas.Bool.{both_ways}
use Rattle.std.proofs.lemmas.List.Elements.{All-contains, All-from_recursion}
use Rattle.std.proofs.lemmas.List.Kept.{AllPairs-cons}
use Rattle.casa_flight.specs.declared.comp.Comp.{Comp}
use Rattle.casa_filing.specs.Text.{Text, at_name}
use Rattle.casa_flight.specs.Listing.{insert_sorted, sorted_by, is_before}
use Rattle.casa_flight.specs.Good.{AreInOrder}
use Rattle.casa_filing.proofs.Entries.{text_cmp, all-each, all-both, all-filter_map, each_found}
use Rattle.casa_flight.proofs.PutBy.{put_first, put_later, all-put_by, all-fold, PairsByRecursion, each_itself}
use Rattle.casa_laws.proofs.Kept.{Above, contains-given}
use Rattle.casa_laws.proofs.Competitors.{before_on, before_total, less_apart}

-- what holds of each element and each later one
pub pairs_from_recursion : {X : Type 0} (R : X → X → Type 0) (xs : List X) → PairsByRecursion R xs → AllPairs R xs
pairs_from_recursion R [] h = λ i j d before within. absurd (omega arith)
pairs_from_recursion R (x ∷ xs) h = AllPairs-cons R x xs (All-from_recursion (R x) xs h.0) (pairs_from_recursion R xs h.1)

pub pairs-each : {X : Type 0} (R S : X → X → Type 0) → ((x y : X) → R x y → S x y) → (xs : List X) → PairsByRecursion R xs → PairsByRecursion S xs
pairs-each R S f [] h = tt
pairs-each R S f (x ∷ xs) h = (all-each (R x) (S x) (f x) xs h.0, pairs-each R S f xs h.1)

-- what is in order has the elements that were put in order
each_put : {X : Type 0} (P : X → Type 0) (precedes : X → X → Bool) (x : X) (ys : List X) → AllByRecursion P (insert_sorted precedes x ys) → P x × AllByRecursion P ys
each_put P precedes x [] h = h
each_put {X} P precedes x (y ∷ ys) h =
    elim (precedes y x) as (λ b. precedes y x ≡ b → P x × AllByRecursion P (y ∷ ys)) [
      | true ↦ λ p.
          let all : AllByRecursion P (y ∷ insert_sorted precedes x ys) = subst (AllByRecursion P) (put_later precedes x y ys p) h in
          let rest : P x × AllByRecursion P ys = each_put P precedes x ys all.1 in
          (rest.0, (all.0, rest.1))
      | false ↦ λ p. subst (AllByRecursion P) (put_first precedes x y ys p) h
    ] refl

each_fold : {X : Type 0} (P : X → Type 0) (precedes : X → X → Bool) (xs ys : List X) → AllByRecursion P (fold (λ (zs : List X) (x : X). insert_sorted precedes x zs) ys xs) → AllByRecursion P ys × AllByRecursion P xs
each_fold P precedes [] ys h = (h, tt)
each_fold P precedes (x ∷ xs) ys h =
    let later : AllByRecursion P (insert_sorted precedes x ys) × AllByRecursion P xs = each_fold P precedes xs (insert_sorted precedes x ys) h in
    let here : P x × AllByRecursion P ys = each_put P precedes x ys later.0 in
    (here.1, (here.0, later.1))

all_contained : {X : Type 0} (P : X → Type 0) (xs : List X) (x : X) → AllByRecursion P xs → Contains xs x → P x
all_contained P xs x h = All-contains P xs x (All-from_recursion P xs h)

pub contains-in_order : {X : Type 0} (precedes : X → X → Bool) (xs : List X) (x : X) → Contains (sorted_by precedes xs) x ↔ Contains xs x
contains-in_order {X} precedes xs x =
    let ys : List X = sorted_by precedes xs in (
      all_contained (Contains xs) ys x (all-fold (Contains xs) precedes xs [] (each_itself xs) tt),
      all_contained (Contains ys) xs x (each_fold (Contains ys) precedes xs [] (each_itself ys)).1,
    )

-- one of two comes before the other
abbrev Comparable : {X : Type 0} → (X → X → Bool) → X → X → Type 0
Comparable precedes x y = (precedes x y ≡ true) ⊎ (precedes y x ≡ true)

flipped : {X : Type 0} (precedes : X → X → Bool) (x y : X) → Comparable precedes x y → Comparable precedes y x
flipped precedes x y (inl h) = inr h
flipped precedes x y (inr h) = inl h

abbrev GoesOn : {X : Type 0} → (X → X → Bool) → Type 0
GoesOn {X} precedes = (x y z : X) → precedes x y ≡ true → precedes y z ≡ true → precedes x z ≡ true

abbrev InTurn : {X : Type 0} → (X → X → Bool) → List X → Type 0
InTurn {X} precedes xs = PairsByRecursion (λ (x y : X). precedes x y ≡ true) xs

turn-put : {X : Type 0} (precedes : X → X → Bool) → GoesOn precedes → (x : X) (ys : List X) → AllByRecursion (Comparable precedes x) ys → InTurn precedes ys → InTurn precedes (insert_sorted precedes x ys)
turn-put precedes on x [] c h = (tt, tt)
turn-put {X} precedes on x (y ∷ ys) c h =
    elim (precedes y x) as (λ b. precedes y x ≡ b → InTurn precedes (insert_sorted precedes x (y ∷ ys))) [
      | true ↦ λ p. subst (InTurn precedes) (sym (put_later precedes x y ys p)) (all-put_by (λ (z : X). precedes y z ≡ true) precedes x p ys h.0, turn-put precedes on x ys c.1 h.1)
      | false ↦ λ p.
          let less : precedes x y ≡ true = elim c.0 [ inl q ↦ q | inr q ↦ absurd (both_ways _ p q) ] in
          let rest : AllByRecursion (λ (z : X). precedes x z ≡ true) ys = all-each (λ (z : X). precedes y z ≡ true) (λ (z : X). precedes x z ≡ true) (λ z q. on x y z less q) ys h.0 in
          subst (InTurn precedes) (sym (put_first precedes x y ys p)) ((less, rest), h)
    ] refl

pub all-always : {X : Type 0} (P : X → Type 0) → ((x : X) → P x) → (xs : List X) → AllByRecursion P xs
all-always P f [] = tt
all-always P f (x ∷ xs) = (f x, all-always P f xs)

abbrev IsTwoWay : {X : Type 0} → (X → X → Type 0) → Type 0
IsTwoWay {X} R = (x y : X) → R x y → R y x

-- what stays so with each element that is put in, where R holds of it and those that are there, is so of what is in order
put-keeps : {X : Type 0} (precedes : X → X → Bool) (R : X → X → Type 0) → IsTwoWay R → (Keeps : List X → Type 0)
    → ((x : X) (ys : List X) → AllByRecursion (R x) ys → Keeps ys → Keeps (insert_sorted precedes x ys))
    → (xs ys : List X) → PairsByRecursion R xs → AllByRecursion (λ (x : X). AllByRecursion (R x) ys) xs → Keeps ys
    → Keeps (fold (λ (zs : List X) (x : X). insert_sorted precedes x zs) ys xs)
put-keeps precedes R flip Keeps put [] ys pairs each h = h
put-keeps {X} precedes R flip Keeps put (x ∷ xs) ys pairs each h =
    let more : AllByRecursion (λ (z : X). AllByRecursion (R z) (insert_sorted precedes x ys)) xs =
    all-each (λ (z : X). R x z × AllByRecursion (R z) ys) (λ (z : X). AllByRecursion (R z) (insert_sorted precedes x ys))
    (λ z q. all-put_by (R z) precedes x (flip x z q.0) ys q.1) xs
    (all-both (R x) (λ (z : X). AllByRecursion (R z) ys) xs pairs.0 each.1) in
    put-keeps precedes R flip Keeps put xs (insert_sorted precedes x ys) pairs.1 more (put x ys each.0 h)

order-keeps : {X : Type 0} (precedes : X → X → Bool) (R : X → X → Type 0) → IsTwoWay R → (Keeps : List X → Type 0)
    → ((x : X) (ys : List X) → AllByRecursion (R x) ys → Keeps ys → Keeps (insert_sorted precedes x ys))
    → Keeps [] → (xs : List X) → PairsByRecursion R xs → Keeps (sorted_by precedes xs)
order-keeps {X} precedes R flip Keeps put none xs pairs =
    put-keeps precedes R flip Keeps put xs [] pairs (all-always (λ (x : X). AllByRecursion (R x) []) (λ x. tt) xs) none

-- each comes before all later ones
turn-in_order : {X : Type 0} (precedes : X → X → Bool) → GoesOn precedes → (xs : List X) → PairsByRecursion (Comparable precedes) xs → InTurn precedes (sorted_by precedes xs)
turn-in_order {X} precedes on xs c =
    order-keeps precedes (Comparable precedes) (flipped precedes) (InTurn precedes) (turn-put precedes on) tt xs c

-- and what holds of any two both ways holds of any two that are in order
pairs-put : {X : Type 0} (precedes : X → X → Bool) (R : X → X → Type 0) → IsTwoWay R → (x : X) (ys : List X) → AllByRecursion (R x) ys → PairsByRecursion R ys → PairsByRecursion R (insert_sorted precedes x ys)
pairs-put precedes R flip x [] c h = (tt, tt)
pairs-put {X} precedes R flip x (y ∷ ys) c h =
    elim (precedes y x) as (λ b. precedes y x ≡ b → PairsByRecursion R (insert_sorted precedes x (y ∷ ys))) [
      | true ↦ λ p. subst (PairsByRecursion R) (sym (put_later precedes x y ys p)) (all-put_by (R y) precedes x (flip x y c.0) ys h.0, pairs-put precedes R flip x ys c.1 h.1)
      | false ↦ λ p. subst (PairsByRecursion R) (sym (put_first precedes x y ys p)) (c, h)
    ] refl

pairs-in_order : {X : Type 0} (precedes : X → X → Bool) (R : X → X → Type 0) → IsTwoWay R → (xs : List X) → PairsByRecursion R xs → PairsByRecursion R (sorted_by precedes xs)
pairs-in_order {X} precedes R flip xs h = order-keeps precedes R flip (PairsByRecursion R) (pairs-put precedes R flip) tt xs h

-- what is kept of the entries of a map has the names of its entries
abbrev pub HasName : {X S : Type 0} → (X → Text) → (Text × S → Option X) → Type 0
HasName {X} {S} name kind = (e : Text × S) (x : X) → kind e ≡ Some x → name x ≡ e.0

above-filtered : {X S : Type 0} (name : X → Text) (kind : Text × S → Option X) → HasName name kind → (k : Text) (es : List (Text × S)) → Above k es → AllByRecursion (λ (x : X). text_cmp k (name x) ≡ Less) (filter_map kind es)
above-filtered name kind whose k [] h = tt
above-filtered {X} {S} name kind whose k (e ∷ es) h =
    elim (kind e) as (λ (o : Option X). kind e ≡ o → AllByRecursion (λ (x : X). text_cmp k (name x) ≡ Less) (cons_option o (filter_map kind es))) [
      | None ↦ λ t. above-filtered name kind whose k es h.1
      | Some x ↦ λ t. (subst (λ (q : Text). text_cmp k q ≡ Less) (sym (whose e x t)) h.0, above-filtered name kind whose k es h.1)
    ] refl

all-names : {X : Type 0} (P : Text → Type 0) (name : X → Text) (xs : List X) → AllByRecursion (λ (x : X). P (name x)) xs → AllByRecursion P (map name xs)
all-names P name [] h = tt
all-names P name (x ∷ xs) h = (h.0, all-names P name xs h.1)

-- so their names rise
pub names_rise : {X S : Type 0} (name : X → Text) (kind : Text × S → Option X) → HasName name kind → (es : List (Text × S)) → AreInOrder es → PairsByRecursion (λ (x y : X). text_cmp (name x) (name y) ≡ Less) (filter_map kind es)
unfolding IsStrictlySortedBy
names_rise name kind whose [] h = tt
names_rise {X} {S} name kind whose (e ∷ es) h =
    elim (kind e) as (λ (o : Option X). kind e ≡ o → PairsByRecursion (λ (x y : X). text_cmp (name x) (name y) ≡ Less) (cons_option o (filter_map kind es))) [
      | None ↦ λ t. names_rise name kind whose es h.1
      | Some x ↦ λ t.
          (subst (λ (q : Text). AllByRecursion (λ (y : X). text_cmp q (name y) ≡ Less) (filter_map kind es)) (sym (whose e x t)) (above-filtered name kind whose e.0 es h.0), names_rise name kind whose es h.1)
    ] refl

pub names_sorted : {X : Type 0} (name : X → Text) (xs : List X) → PairsByRecursion (λ (x y : X). text_cmp (name x) (name y) ≡ Less) xs → IsStrictlySortedBy text_cmp (map name xs)
unfolding IsStrictlySortedBy
names_sorted name [] h = tt
names_sorted {X} name (x ∷ xs) h = (all-names (λ (q : Text). text_cmp (name x) q ≡ Less) name xs h.0, names_sorted name xs h.1)

-- what is kept of them is what the look-ups give
abbrev pub IsKeptOf : {X S : Type 0} → (X → Text) → (Text × S → Option X) → List (Text × S) → X → Type 0
IsKeptOf {X} {S} name kind es x = (s : S) × (at_name es (name x) ≡ Some s) × (kind (name x, s) ≡ Some x)

kept_from : {X S : Type 0} (name : X → Text) (kind : Text × S → Option X) → HasName name kind → (es : List (Text × S)) → AreInOrder es → AllByRecursion (IsKeptOf name kind es) (filter_map kind es)
kept_from {X} {S} name kind whose es sorted =
    all-filter_map (λ (e : Text × S). at_name es e.0 ≡ Some e.1) (IsKeptOf name kind es) kind
    (λ e x found is. (e.1, subst (λ (q : Text). at_name es q ≡ Some e.1) (sym (whose e x is)) found, subst (λ (q : Text). kind (q, e.1) ≡ Some x) (sym (whose e x is)) is)) es (each_found es sorted)

pub contains-kept : {X S : Type 0} (name : X → Text) (kind : Text × S → Option X) → HasName name kind → (es : List (Text × S)) → AreInOrder es → (x : X) → Contains (filter_map kind es) x ↔ IsKeptOf name kind es x
contains-kept name kind whose es sorted x = (
  all_contained (IsKeptOf name kind es) (filter_map kind es) x (kept_from name kind whose es sorted),
  λ k. contains-given kind (name x) k.0 x es k.1 k.2,
)

-- kept entries put in the order in which flights are planned: who is there, and that each comes before all later ones
pub contains-planned : {X S : Type 0} (comp : X → Comp) (kind : Text × S → Option X) → HasName (λ (x : X). (comp x).key) kind → (es : List (Text × S)) → AreInOrder es → (x : X)
    → Contains (sorted_by (λ (a b : X). is_before (comp a) (comp b)) (filter_map kind es)) x ↔ IsKeptOf (λ (x : X). (comp x).key) kind es x
contains-planned {X} comp kind whose es sorted x =
    let there = contains-in_order (λ (a b : X). is_before (comp a) (comp b)) (filter_map kind es) x in
    let is = contains-kept (λ (x : X). (comp x).key) kind whose es sorted x in
    (λ h. is.0 (there.0 h), λ k. there.1 (is.1 k))

pub turn-planned : {X S : Type 0} (comp : X → Comp) (kind : Text × S → Option X) → HasName (λ (x : X). (comp x).key) kind → (es : List (Text × S)) → AreInOrder es
    → PairsByRecursion (λ (a b : X). is_before (comp a) (comp b) ≡ true) (sorted_by (λ (a b : X). is_before (comp a) (comp b)) (filter_map kind es))
turn-planned {X} comp kind whose es sorted =
    turn-in_order (λ (a b : X). is_before (comp a) (comp b)) (λ x y z. before_on (comp x) (comp y) (comp z)) (filter_map kind es)
    (pairs-each (λ (x y : X). text_cmp (comp x).key (comp y).key ≡ Less) (Comparable (λ (a b : X). is_before (comp a) (comp b)))
    (λ x y less. before_total (comp x) (comp y) (less_apart (comp x).key (comp y).key less)) (filter_map kind es) (names_rise (λ (x : X). (comp x).key) kind whose es sorted))

-- no two of them have the same key
abbrev pub AreApart : {X : Type 0} → (X → Comp) → X → X → Type 0
AreApart {X} comp x y = (comp x).key ≡ (comp y).key → ⊥

pub apart-planned : {X S : Type 0} (comp : X → Comp) (kind : Text × S → Option X) → HasName (λ (x : X). (comp x).key) kind → (es : List (Text × S)) → AreInOrder es
    → PairsByRecursion (AreApart comp) (sorted_by (λ (a b : X). is_before (comp a) (comp b)) (filter_map kind es))
apart-planned {X} comp kind whose es sorted =
    pairs-in_order (λ (a b : X). is_before (comp a) (comp b)) (AreApart comp) (λ x y other same. other (sym same)) (filter_map kind es)
    (pairs-each (λ (x y : X). text_cmp (comp x).key (comp y).key ≡ Less) (AreApart comp)
    (λ x y less. less_apart (comp x).key (comp y).key less) (filter_map kind es) (names_rise (λ (x : X). (comp x).key) kind whose es sorted))
