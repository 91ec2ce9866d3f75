-- changes over values, gone through in the order of the names
use Rattle.std.proofs.Common.{◌≡◌, List, [], ◌∷◌, drop, is_some, true, refl, sym, ap, ◌∙◌, subst, Option, None, Some}
use Rattle.std.proofs.Common.{Bor}
use Rattle.std.specs.declared.cmp.Ordering.{Ordering}
use Rattle.std.specs.declared.cmp.Ordering.TheVariants.{Less, Equal, Greater}
use Rattle.std.specs.Ordering.{is_eq, match_ordering, ordering_reverse}
use Rattle.std.specs.Option.{option_map}
use Rattle.std.specs.List.Sorted.{IsStrictlySortedBy}
use Rattle.std.specs.Map.{keys_of}
use Rattle.std.specs.Map.Iter.{deref_pair}
use Rattle.std.proofs.lemmas.Cmp.{nat_list_cmp_total}
use Rattle.casa_filing.specs.Text.{Text, put}
use Rattle.casa_flight.specs.Good.{AreInOrder}
use Rattle.casa_filing.proofs.Entries.{text_cmp, same_name, after_all}
use Rattle.casa_laws.proofs.Kept.{Above}
use Rattle.casa_named.specs.Named.{ahead}
use Rattle.casa_named.specs.Overlaid.{overlay, some_values}

-- once the first entry is passed, those behind it are in order
pub passed-in-order : {X : Type 0} (first : Option (Bor Text × Bor X)) (others rest : List (Text × X))
    → is_some first ≡ true → rest ≡ others → AreInOrder (ahead (option_map deref_pair first) others) → AreInOrder rest
unfolding IsStrictlySortedBy
passed-in-order None others rest there same order = cc
passed-in-order {X} (Some e) others rest there same order =
    subst (λ (es : List (Text × X)). AreInOrder es) (sym same) order.1

pub none-in-order : IsStrictlySortedBy text_cmp []
unfolding IsStrictlySortedBy
none-in-order = tt

-- an entry before all changes stays the first one
pub overlaid-first : {X : Type 0} (k : Text) (x : X) (ws es : List (Text × X)) → Above k ws
    → overlay ws ((k, x) ∷ es) ≡ (k, x) ∷ overlay ws es
overlaid-first k x [] es h = refl
overlaid-first {X} k x (w ∷ ws) es h =
    let later : text_cmp w.0 k ≡ Greater = nat_list_cmp_total.antisymm w.0 k ∙ ap ordering_reverse h.0 in
    ap (λ (r : Ordering). overlay ws (match_ordering r
    ((w.0, w.1) ∷ (k, x) ∷ es) ((k, w.1) ∷ es) ((k, x) ∷ put es w.0 w.1))) later
    ∙ overlaid-first k x ws (put es w.0 w.1) h.1

pub overlaid-alone : {X : Type 0} (ws : List (Text × X)) → AreInOrder ws → overlay ws [] ≡ ws
unfolding IsStrictlySortedBy
overlaid-alone [] h = refl
overlaid-alone {X} (w ∷ ws) h =
    overlaid-first w.0 w.1 ws [] h.0 ∙ ap (λ (es : List (Text × X)). w ∷ es) (overlaid-alone ws h.1)

-- the first name of values and changes
module _ {X : Type 0} (n o : Text) (v : X) (w : Option X) (vs : List (Text × X)) (ws : List (Text × Option X)) where
  before : text_cmp n o ≡ Less → AreInOrder ((o, w) ∷ ws)
      → overlay ((o, w) ∷ ws) (some_values ((n, v) ∷ vs)) ≡ (n, Some v) ∷ overlay ((o, w) ∷ ws) (some_values vs)
  unfolding IsStrictlySortedBy
  before less order =
      overlaid-first n (Some v) ((o, w) ∷ ws) (some_values vs) (less, after_all n o less (keys_of ws) order.0)

  tied-first : text_cmp n o ≡ Equal → AreInOrder ((o, w) ∷ ws)
      → overlay ((o, w) ∷ ws) (some_values ((n, v) ∷ vs)) ≡ (n, w) ∷ overlay ws (some_values vs)
  unfolding IsStrictlySortedBy
  tied-first tied order =
      let back : text_cmp o n ≡ Equal = nat_list_cmp_total.antisymm o n ∙ ap ordering_reverse tied in
      ap (λ (r : Ordering). overlay ws (match_ordering r
      ((o, w) ∷ some_values ((n, v) ∷ vs)) ((n, w) ∷ some_values vs) ((n, Some v) ∷ put (some_values vs) o w))) back
      ∙ overlaid-first n w ws (some_values vs)
      (subst (λ (q : Text). Above q ws) (sym (same_name n o (ap is_eq tied))) order.0)

  after : text_cmp n o ≡ Greater → AreInOrder ((o, w) ∷ ws)
      → overlay ((o, w) ∷ ws) (some_values ((n, v) ∷ vs)) ≡ (o, w) ∷ overlay ws (some_values ((n, v) ∷ vs))
  unfolding IsStrictlySortedBy
  after greater order =
      let back : text_cmp o n ≡ Less = nat_list_cmp_total.antisymm o n ∙ ap ordering_reverse greater in
      ap (λ (r : Ordering). overlay ws (match_ordering r
      ((o, w) ∷ some_values ((n, v) ∷ vs)) ((n, w) ∷ some_values vs) ((n, Some v) ∷ put (some_values vs) o w))) back
      ∙ overlaid-first o w ws (some_values ((n, v) ∷ vs)) order.0

module _ {X : Type 0} (n o : Text) (v : X) (w : Option X) (vs vs_left : List (Text × X))
    (ws ws_left : List (Text × Option X)) (ordered : AreInOrder ws)
    (values : vs ≡ (n, v) ∷ drop 1 vs) (changes : ws ≡ (o, w) ∷ drop 1 ws) where
  order : AreInOrder ((o, w) ∷ drop 1 ws)
  order = subst (λ (es : List (Text × Option X)). AreInOrder es) changes ordered

  -- the value's name comes first
  pub value-first : text_cmp n o ≡ Less → vs_left ≡ drop 1 vs
      → overlay ws (some_values vs) ≡ (n, Some v) ∷ overlay ws (some_values vs_left)
  value-first less same =
      (λ i. overlay (changes i) (some_values (values i))) ∙ before n o v w (drop 1 vs) (drop 1 ws) less order
      ∙ (λ i. (n, Some v) ∷ overlay (sym changes i) (some_values (sym same i)))

  -- both have the same name
  pub both-first : text_cmp n o ≡ Equal → vs_left ≡ drop 1 vs → ws_left ≡ drop 1 ws
      → overlay ws (some_values vs) ≡ (n, w) ∷ overlay ws_left (some_values vs_left)
  both-first tied same others =
      (λ i. overlay (changes i) (some_values (values i))) ∙ tied-first n o v w (drop 1 vs) (drop 1 ws) tied order
      ∙ (λ i. (n, w) ∷ overlay (sym others i) (some_values (sym same i)))

  -- the change's name comes first
  pub change-first : text_cmp n o ≡ Greater → ws_left ≡ drop 1 ws
      → overlay ws (some_values vs) ≡ (o, w) ∷ overlay ws_left (some_values vs)
  change-first greater others =
      (λ i. overlay (changes i) (some_values (values i))) ∙ after n o v w (drop 1 vs) (drop 1 ws) greater order
      ∙ (λ i. (o, w) ∷ overlay (sym others i) (some_values (sym values i)))

-- no value is left
pub change-alone : {X : Type 0} (o : Text) (w : Option X) (vs : List (Text × X)) (ws ws_left : List (Text × Option X))
    → AreInOrder ws → vs ≡ [] → ws ≡ (o, w) ∷ drop 1 ws → ws_left ≡ drop 1 ws
    → overlay ws (some_values vs) ≡ (o, w) ∷ overlay ws_left (some_values vs)
unfolding IsStrictlySortedBy
change-alone {X} o w vs ws ws_left ordered none changes others =
    (λ i. overlay (changes i) (some_values (none i)))
    ∙ overlaid-first o w (drop 1 ws) [] (subst (λ (es : List (Text × Option X)). AreInOrder es) changes ordered).0
    ∙ (λ i. (o, w) ∷ overlay (sym others i) (some_values (sym none i)))
