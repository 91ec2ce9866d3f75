-- entries in order of their names, put into an empty map one by one, are the map's entries
use Rattle.std.proofs.Common.{◌≡◌, List, [], ◌∷◌, ◌++◌, refl, ap, ◌∙◌, sym, subst, Option, map, append_assoc, append-nil}
use Rattle.std.specs.declared.cmp.Ordering.TheVariants.{Less, Greater}
use Rattle.std.specs.Ordering.{ordering_reverse}
use Rattle.std.specs.List.{AllByRecursion}
use Rattle.std.specs.List.Sorted.{IsStrictlySortedBy}
use Rattle.std.specs.Map.{keys_of}
use Rattle.std.proofs.lemmas.Cmp.{nat_list_cmp_total}
use Rattle.casa_filing.specs.Text.{Text, put}
use Rattle.casa_flight.specs.Listing.{filter_map_values}
use Rattle.casa_flight.specs.Good.{AreInOrder}
use Rattle.casa_filing.proofs.Entries.{text_cmp}
use Rattle.casa_laws.proofs.Kept.{put_all, sorted-kept}

-- every name of the entries comes before this one
abbrev AreBelow : {X : Type 0} → List (Text × X) → Text → Type 0
AreBelow {X} es k = AllByRecursion (λ (q : Text). text_cmp q k ≡ Less) (keys_of es)

put-last : {X : Type 0} (es : List (Text × X)) (k : Text) (v : X) → AreBelow es k → put es k v ≡ es ++ (k, v) ∷ []
put-last [] k v h = refl
put-last {X} (e ∷ es) k v h =
    let later : text_cmp k e.0 ≡ Greater = nat_list_cmp_total.antisymm k e.0 ∙ ap ordering_reverse h.0 in
    rw (later, put-last es k v h.1)

one_of_all : {X : Type 0} (P : Text → Type 0) (es : List (Text × X)) (e : Text × X) (fs : List (Text × X)) → AllByRecursion P (keys_of (es ++ e ∷ fs)) → P e.0
one_of_all P [] e fs h = h.0
one_of_all P (x ∷ es) e fs h = one_of_all P es e fs h.1

are_below : {X : Type 0} (es : List (Text × X)) (e : Text × X) (fs : List (Text × X)) → AreInOrder (es ++ e ∷ fs) → AreBelow es e.0
unfolding IsStrictlySortedBy
are_below [] e fs h = tt
are_below (x ∷ es) e fs h = (one_of_all (λ (q : Text). text_cmp x.0 q ≡ Less) es e fs h.0, are_below es e fs h.1)

put_all-append : {X : Type 0} (es fs : List (Text × X)) → AreInOrder (es ++ fs) → put_all es fs ≡ es ++ fs
put_all-append es [] h = simp append-nil
put_all-append {X} es (e ∷ fs) h =
    let next : AreInOrder ((es ++ e ∷ []) ++ fs) = rw append_assoc h in
    ap (λ (a : List (Text × X)). put_all a fs) (put-last es e.0 e.1 (are_below es e fs h)) ∙ put_all-append (es ++ e ∷ []) fs next ∙ append_assoc es (e ∷ []) fs

pub put_all-none : {X : Type 0} (es : List (Text × X)) → AreInOrder es → put_all [] es ≡ es
put_all-none es h = put_all-append [] es h

pub put_all-kept : {X Y : Type 0} (f : X → Option Y) (es : List (Text × X)) → AreInOrder es → put_all [] (filter_map_values f es) ≡ filter_map_values f es
put_all-kept f es h = put_all-none (filter_map_values f es) (sorted-kept f es h)

keys_of-each : {X Y : Type 0} (g : Text × X → Y) (es : List (Text × X)) → keys_of (map (λ (e : Text × X). (e.0, g e)) es) ≡ keys_of es
keys_of-each g [] = refl
keys_of-each g (e ∷ es) = ap (λ (ks : List Text). e.0 ∷ ks) (keys_of-each g es)

-- and so do entries with other values
pub put_all-each : {X Y : Type 0} (g : Text × X → Y) (es : List (Text × X)) → AreInOrder es → put_all [] (map (λ (e : Text × X). (e.0, g e)) es) ≡ map (λ (e : Text × X). (e.0, g e)) es
put_all-each {X} {Y} g es h =
    put_all-none (map (λ (e : Text × X). (e.0, g e)) es) (subst (λ (ks : List Text). IsStrictlySortedBy text_cmp ks) (sym (keys_of-each g es)) h)
