-- what is gathered of some names is all that is kept, if no name that gives something is left out
use Rattle.std.proofs.Common.{◌≡◌, List, [], ◌∷◌, ◌++◌, Bool, true, false, ◌||◌, cond, refl, sym, ap, ◌∙◌, Option, None}
use Rattle.std.proofs.Common.{Some, subst, if◌then◌else◌}
use Rattle.std.specs.Ordering.{is_eq}
use Rattle.std.specs.Option.{option_and_then, option_or}
use Rattle.std.specs.List.Sorted.{IsStrictlySortedBy}
use Rattle.std.proofs.lemmas.List.Folds.{list_any-append}
use Rattle.casa_filing.specs.Text.{Text, at_name}
use Rattle.casa_flight.specs.Good.{AreInOrder}
use Rattle.casa_flight.specs.Listing.{filter_map_values}
use Rattle.casa_filing.proofs.Entries.{text_cmp, same_name, at-put, sorted-put}
use Rattle.casa_laws.proofs.Kept.{at-kept, same_entries, sorted-kept}
use Rattle.casa_item.specs.Gathered.{put_if_some, is_named, HasGathered}

-- what f gives of the values under these names, noted one by one
abbrev pub gathered : {X Y : Type 0} → (X → Option Y) → List (Text × X) → List (Text × Y) → List Text → List (Text × Y)
gathered f es found [] = found
gathered f es found (k ∷ ks) = gathered f es (put_if_some found k (option_and_then f (at_name es k))) ks

pub at-noted : {Y : Type 0} (found : List (Text × Y)) (k : Text) (o : Option Y) (q : Text)
    → at_name (put_if_some found k o) q ≡ option_or (if is_eq (text_cmp q k) then o else None) (at_name found q)
at-noted {Y} found k None q = by (is_eq (text_cmp q k))
  where
    by : (b : Bool) → at_name found q ≡ option_or (if b then None else None) (at_name found q)
    by true = refl
    by false = refl
at-noted {Y} found k (Some y) q = at-put q k y found ∙ by (is_eq (text_cmp q k))
  where
    by : (b : Bool) → cond b (Some y) (at_name found q) ≡ option_or (if b then Some y else None) (at_name found q)
    by true = refl
    by false = refl

-- the same is found under a name twice, or once
twice : {Y : Type 0} (a b : Bool) (o w : Option Y)
    → option_or (if a then o else None) (option_or (if b then o else None) w) ≡ option_or (if b || a then o else None) w
twice true true None w = refl
twice true true (Some y) w = refl
twice true false o w = refl
twice false true o w = refl
twice false false o w = refl

at-gathered : {X Y : Type 0} (f : X → Option Y) (es : List (Text × X)) (q : Text) (ks : List Text)
    (found : List (Text × Y))
    → at_name (gathered f es found ks) q
    ≡ option_or (if is_named ks q then option_and_then f (at_name es q) else None) (at_name found q)
at-gathered f es q [] found = refl
at-gathered {X} {Y} f es q (k ∷ ks) found =
    at-gathered f es q ks (put_if_some found k (option_and_then f (at_name es k)))
    ∙ ap (option_or (if is_named ks q then given else None))
    (at-noted found k (option_and_then f (at_name es k)) q ∙ same (is_eq (text_cmp q k)) refl)
    ∙ twice (is_named ks q) (is_eq (text_cmp q k)) given (at_name found q)
  where
    given : Option Y
    given = option_and_then f (at_name es q)

    same : (b : Bool) → is_eq (text_cmp q k) ≡ b
        → option_or (if b then option_and_then f (at_name es k) else None) (at_name found q)
        ≡ option_or (if b then given else None) (at_name found q)
    same true t =
        ap (λ (p : Text). option_or (option_and_then f (at_name es p)) (at_name found q)) (sym (same_name q k t))
    same false t = refl

pub sorted-noted : {Y : Type 0} (found : List (Text × Y)) (k : Text) (o : Option Y) → AreInOrder found
    → AreInOrder (put_if_some found k o)
sorted-noted found k None h = h
sorted-noted found k (Some y) h = sorted-put k y found h

sorted-gathered : {X Y : Type 0} (f : X → Option Y) (es : List (Text × X)) (ks : List Text) (found : List (Text × Y))
    → AreInOrder found → AreInOrder (gathered f es found ks)
sorted-gathered f es [] found h = h
sorted-gathered f es (k ∷ ks) found h =
    sorted-gathered f es ks (put_if_some found k (option_and_then f (at_name es k)))
    (sorted-noted found k (option_and_then f (at_name es k)) h)

-- what is noted one by one is gathered
pub has_gathered : {X Y : Type 0} (f : X → Option Y) (es : List (Text × X)) (ks : List Text)
    (before now : List (Text × Y))
    → now ≡ gathered f es before ks → HasGathered f es ks before now
has_gathered f es ks before now is = record {
  in_order = λ h. subst AreInOrder (sym is) (sorted-gathered f es ks before h);
  found = λ q. ap (λ fs. at_name fs q) is ∙ at-gathered f es q ks before;
}

pub all_noted : {X Y : Type 0} (f : X → Option Y) (es : List (Text × X)) (rest ks : List Text)
    (before now : List (Text × Y))
    → rest ≡ [] → gathered f es now rest ≡ gathered f es before ks → HasGathered f es ks before now
all_noted f es rest ks before now none same = has_gathered f es ks before now (ap (gathered f es now) (sym none) ∙ same)

-- what is gathered under names, and then under others
pub gathered_both : {X Y : Type 0} (f : X → Option Y) (es : List (Text × X)) (ks ls : List Text)
    (a b c : List (Text × Y))
    → HasGathered f es ks a b → HasGathered f es ls b c → HasGathered f es (ks ++ ls) a c
gathered_both f es ks ls a b c first second = record {
  in_order = λ h. second.in_order (first.in_order h);
  found = λ q.
      let given = option_and_then f (at_name es q) in
      second.found q ∙ ap (option_or (if is_named ls q then given else None)) (first.found q)
      ∙ twice (is_named ls q) (is_named ks q) given (at_name a q)
      ∙ ap (λ t. option_or (if t then given else None) (at_name a q))
      (sym (list_any-append (λ (k : Text). is_eq (text_cmp q k)) ks ls));
}

-- no name that gives something is left out
abbrev pub AreFound : {X Y : Type 0} → (X → Option Y) → List (Text × X) → List Text → Type 0
AreFound {X} {Y} f es ks = (q : Text) (y : Y) → option_and_then f (at_name es q) ≡ Some y → is_named ks q ≡ true

all_or_none : {Y : Type 0} (o : Option Y) (b : Bool) → ((y : Y) → o ≡ Some y → b ≡ true)
    → option_or (if b then o else None) None ≡ o
all_or_none None true h = refl
all_or_none None false h = refl
all_or_none (Some y) true h = refl
all_or_none {Y} (Some y) false h = let no : false ≡ true = h y refl in cc

pub gathered_is : {X Y : Type 0} (f : X → Option Y) (es : List (Text × X)) (ks : List Text) (now : List (Text × Y))
    → AreInOrder es → AreFound f es ks → HasGathered f es ks [] now → now ≡ filter_map_values f es
unfolding IsStrictlySortedBy
gathered_is {X} {Y} f es ks now sorted found has =
    same_entries now (filter_map_values f es) (has.in_order tt) (sorted-kept f es sorted)
    (λ q. has.found q ∙ all_or_none (option_and_then f (at_name es q)) (is_named ks q) (found q)
    ∙ sym (at-kept f q es sorted))
