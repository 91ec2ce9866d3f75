-- flights put in the order of their keys, of several with one key the first alone, are those flights by their keys
use Rattle.std.proofs.Common.{◌≡◌, List, [], ◌∷◌, Bool, true, false, cond, refl, sym, ap, subst, ◌∙◌}
use Rattle.std.specs.declared.cmp.Ordering.TheVariants.{Less, Equal, Greater}
use Rattle.std.specs.Ordering.{is_lt, match_ordering, ordering_reverse}
use Rattle.std.specs.Cmp.{IsStrictWeakOrder}
use Rattle.std.specs.List.{dedup, dedup_from, fold}
use Rattle.std.specs.List.Sorted.{IsStrictlySortedBy}
use Rattle.std.proofs.lemmas.Cmp.{nat_list_cmp_total, nat_list_eq_equiv, tied_itself}
use Rattle.std.proofs.lemmas.Map.Lookups.{exact_bytes}
use Rattle.std.proofs.lemmas.List.Sorted.{ranks_by}
use Rattle.casa_flight.specs.declared.row.Stance.{Stance}
use Rattle.casa_filing.specs.Text.{Text, same_text, put}
use Rattle.casa_filing.proofs.Entries.{text_cmp, named, sorted-put}
use Rattle.casa_flight.specs.Good.{AreInOrder}
use Rattle.casa_flight.specs.Listing.{insert_sorted, sorted_by}
use Rattle.casa_flight.proofs.PutBy.{put_later, put_first}
use Rattle.casa_list.specs.ByKey.{by_key, key_before}

abbrev pub same_key : Text × Stance → Text × Stance → Bool
same_key a b = same_text a.0 b.0

pub key_order : IsStrictWeakOrder key_before
key_order = ranks_by nat_list_cmp_total (λ (e : Text × Stance). e.0)

-- a name comes before no name that comes before it, and not before itself
not_itself : (a : Text) → text_cmp a a ≡ Less → ⊥
not_itself a h = let tied : text_cmp a a ≡ Equal = tied_itself nat_list_cmp_total a in cc

turned : (a b : Text) → text_cmp a b ≡ Less → text_cmp b a ≡ Greater
turned a b h = nat_list_cmp_total.antisymm b a ∙ ap ordering_reverse h

turned_back : (a b : Text) → text_cmp a b ≡ Greater → text_cmp b a ≡ Less
turned_back a b h = nat_list_cmp_total.antisymm b a ∙ ap ordering_reverse h

not_so : (b : Bool) → (b ≡ true → ⊥) → b ≡ false
not_so true h = absurd (h refl)
not_so false h = refl

less_differs : (a b : Text) → text_cmp a b ≡ Less → same_text b a ≡ false
less_differs a b h =
    not_so (same_text b a)
    (λ t. not_itself a (subst (λ (q : Text). text_cmp a q ≡ Less) (named b a t) h))

-- the first of each run of flights with one key, but of those in front whose keys pass a test
abbrev runs : (Text → Bool) → List (Text × Stance) → List (Text × Stance)
runs p [] = []
runs p (y ∷ ys) = cond (p y.0) (runs p ys) (y ∷ runs (λ q. same_text q y.0) ys)

runs_from : (x : Text × Stance) (ys : List (Text × Stance))
    → dedup_from same_key x ys ≡ x ∷ runs (λ q. same_text q x.0) ys
runs_from x [] = refl
runs_from x (y ∷ ys) =
    elim (same_text y.0 x.0) as (λ b. cond b (dedup_from same_key x ys) (x ∷ dedup_from same_key y ys)
    ≡ x ∷ cond b (runs (λ q. same_text q x.0) ys) (y ∷ runs (λ q. same_text q y.0) ys)) [
      | true ↦ runs_from x ys
      | false ↦ ap (λ (zs : List (Text × Stance)). x ∷ zs) (runs_from y ys)
    ]

runs_are : (ys : List (Text × Stance)) → dedup same_key ys ≡ runs (λ q. false) ys
runs_are [] = refl
runs_are (y ∷ ys) = runs_from y ys

-- a flight put before the first that does not come before it
runs-put : (p : Text → Bool) (x : Text × Stance) → ((q : Text) → p q ≡ true → text_cmp q x.0 ≡ Less)
    → (ys : List (Text × Stance)) → runs p (insert_sorted key_before x ys) ≡ put (runs p ys) x.0 x.1
runs-put p x skips [] = ap (λ b. cond b [] (x ∷ [])) (not_so (p x.0) (λ t. not_itself x.0 (skips x.0 t)))
runs-put p x skips (y ∷ ys) =
    elim (text_cmp x.0 y.0) as (λ r. text_cmp x.0 y.0 ≡ r
    → runs p (insert_sorted key_before x (y ∷ ys)) ≡ put (runs p (y ∷ ys)) x.0 x.1) [
      | Less ↦ λ t.
          let kept : p y.0 ≡ false =
          not_so (p y.0) (λ u. let less : text_cmp y.0 x.0 ≡ Less = skips y.0 u in
          let more : text_cmp y.0 x.0 ≡ Greater = turned x.0 y.0 t in cc) in
          front (ap is_lt (turned x.0 y.0 t))
          ∙ ap (λ b. x ∷ cond b (runs (λ q. same_text q x.0) ys) rest) (less_differs x.0 y.0 t)
          ∙ sym (ap (λ r. match_ordering r (x ∷ rest) ((y.0, x.1) ∷ others) (y ∷ put others x.0 x.1)) t)
          ∙ sym (ap (λ b. put (cond b (runs p ys) rest) x.0 x.1) kept)
      | Equal ↦ λ t.
          let same : x.0 ≡ y.0 = exact_bytes x.0 y.0 t in
          let kept : p y.0 ≡ false =
          not_so (p y.0) (λ u. not_itself x.0 (skips x.0 (subst (λ (q : Text). p q ≡ true) (sym same) u))) in
          front (subst (λ (q : Text). is_lt (text_cmp q x.0) ≡ false) same (ap is_lt (tied_itself nat_list_cmp_total x.0)))
          ∙ tied same
          ∙ sym (ap (λ r. match_ordering r (x ∷ rest) ((y.0, x.1) ∷ others) (y ∷ put others x.0 x.1)) t)
          ∙ sym (ap (λ b. put (cond b (runs p ys) rest) x.0 x.1) kept)
      | Greater ↦ λ t.
          let less : text_cmp y.0 x.0 ≡ Less = turned_back x.0 y.0 t in
          ap (runs p) (put_later key_before x y ys (ap is_lt less))
          ∙ behind (p y.0) (runs-put p x skips ys)
          (runs-put (λ q. same_text q y.0) x (λ q u. subst (λ (k : Text). text_cmp k x.0 ≡ Less) (sym (named q y.0 u)) less) ys) t
    ] refl
  where
    others : List (Text × Stance)
    others = runs (λ q. same_text q y.0) ys

    rest : List (Text × Stance)
    rest = y ∷ others

    front : key_before y x ≡ false
        → runs p (insert_sorted key_before x (y ∷ ys))
        ≡ x ∷ cond (same_text y.0 x.0) (runs (λ q. same_text q x.0) ys) rest
    front above =
        ap (runs p) (put_first key_before x y ys above)
        ∙ ap (λ b. cond b (runs p (y ∷ ys)) (x ∷ cond (same_text y.0 x.0) (runs (λ q. same_text q x.0) ys) rest))
        (not_so (p x.0) (λ t. not_itself x.0 (skips x.0 t)))

    tied : x.0 ≡ y.0
        → x ∷ cond (same_text y.0 x.0) (runs (λ q. same_text q x.0) ys) rest ≡ (y.0, x.1) ∷ others
    tied same =
        subst
        (λ (q : Text). x ∷ cond (same_text q x.0) (runs (λ q. same_text q x.0) ys) (y ∷ runs (λ k. same_text k q) ys)
        ≡ (q, x.1) ∷ runs (λ k. same_text k q) ys) same
        (ap (λ b. x ∷ cond b (runs (λ q. same_text q x.0) ys) (y ∷ runs (λ q. same_text q x.0) ys))
        (nat_list_eq_equiv.refl x.0))

    behind : (b : Bool) → runs p (insert_sorted key_before x ys) ≡ put (runs p ys) x.0 x.1
        → runs (λ q. same_text q y.0) (insert_sorted key_before x ys) ≡ put others x.0 x.1
        → text_cmp x.0 y.0 ≡ Greater
        → cond b (runs p (insert_sorted key_before x ys)) (y ∷ runs (λ q. same_text q y.0) (insert_sorted key_before x ys))
        ≡ put (cond b (runs p ys) rest) x.0 x.1
    behind true first later t = first
    behind false first later t =
        ap (λ (zs : List (Text × Stance)). y ∷ zs) later
        ∙ sym (ap (λ r. match_ordering r (x ∷ rest) ((y.0, x.1) ∷ others) (y ∷ put others x.0 x.1)) t)

dedup-put : (x : Text × Stance) (ys : List (Text × Stance))
    → dedup same_key (insert_sorted key_before x ys) ≡ put (dedup same_key ys) x.0 x.1
dedup-put x ys =
    runs_are (insert_sorted key_before x ys) ∙ runs-put (λ q. false) x (λ q h. cc) ys
    ∙ ap (λ (zs : List (Text × Stance)). put zs x.0 x.1) (sym (runs_are ys))

dedup-fold : (xs ys : List (Text × Stance))
    → dedup same_key (fold (λ (zs : List (Text × Stance)) (x : Text × Stance). insert_sorted key_before x zs) ys xs)
    ≡ fold (λ (es : List (Text × Stance)) (e : Text × Stance). put es e.0 e.1) (dedup same_key ys) xs
dedup-fold [] ys = refl
dedup-fold (x ∷ xs) ys =
    dedup-fold xs (insert_sorted key_before x ys)
    ∙ ap (λ (zs : List (Text × Stance)). fold (λ (es : List (Text × Stance)) (e : Text × Stance). put es e.0 e.1) zs xs)
    (dedup-put x ys)

pub once_in_order : (xs : List (Text × Stance)) → dedup same_key (sorted_by key_before xs) ≡ by_key xs
once_in_order xs = dedup-fold xs []

-- they are in the order of their keys
sorted-fold : (xs ys : List (Text × Stance)) → AreInOrder ys
    → AreInOrder (fold (λ (es : List (Text × Stance)) (e : Text × Stance). put es e.0 e.1) ys xs)
sorted-fold [] ys h = h
sorted-fold (x ∷ xs) ys h = sorted-fold xs (put ys x.0 x.1) (sorted-put x.0 x.1 ys h)

pub sorted-by_key : (xs : List (Text × Stance)) → AreInOrder (by_key xs)
unfolding IsStrictlySortedBy
sorted-by_key xs = sorted-fold xs [] tt
