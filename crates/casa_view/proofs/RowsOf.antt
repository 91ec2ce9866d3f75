-- the rows of changes over versions, and each by its number
use Rattle.std.proofs.Common.{◌≡◌, ℕ, zero, suc, List, [], ◌∷◌, refl, sym, ap, ◌∙◌, subst, Option, None, Some, Bor}
use Rattle.std.specs.Option.{option_map, option_and_then}
use Rattle.std.specs.List.{cons_option, slice_get}
use Rattle.std.specs.Map.{keys_of, values_of}
use Rattle.std.specs.Ordering.{nat_cmp}
use Rattle.std.specs.Cmp.Lexicographic.{slice_cmp}
use Rattle.std.specs.Map.Iter.{deref_pair}
use Rattle.std.specs.Iterator.{SkipsThenYields, YieldsFirstBy}
use Rattle.std.proofs.lemmas.Iterator.Consumers.{nth_from_yields_List, YieldsList-from_first}
use Rattle.std.specs.List.Sorted.{IsStrictlySortedBy}
use Rattle.casa_filing.specs.Text.{Text, put}
use Rattle.casa_flight.specs.Listing.{filter_map_values}
use Rattle.casa_flight.specs.Good.{AreInOrder}
use Rattle.casa_filing.proofs.Entries.{sorted-put}
use Rattle.casa_laws.proofs.Kept.{set_at, kept-put, kept-without}
use Rattle.casa_item.specs.declared.item.Item.{Item}
use Rattle.casa_item.specs.Versions.{row_of}
use Rattle.casa_table.specs.Flights.{rows_of, rows_named}
use Rattle.casa_table.specs.Laid.{with_value, with_changes}
use Rattle.casa_named.specs.Overlaid.{overlay, some_values}
use Rattle.casa_table.proofs.Layers.{sorted-with_value}

keys-present : {X : Type 0} (es : List (Text × X)) → keys_of es ≡ keys_of (some_values es)
keys-present [] = refl
keys-present (e ∷ es) = ap (λ (ks : List Text). e.0 ∷ ks) (keys-present es)

kept-present : {X Y : Type 0} (f : X → Option Y) (es : List (Text × X))
    → filter_map_values (option_and_then f) (some_values es) ≡ filter_map_values f es
kept-present f [] = refl
kept-present {X} {Y} f (e ∷ es) =
    ap (λ (zs : List (Text × Y)). cons_option (option_map (λ (y : Y). (e.0, y)) (f e.1)) zs) (kept-present f es)

kept-with_value : {X Y : Type 0} (f : X → Option Y) (k : Text) (w : Option X) (es : List (Text × X)) → AreInOrder es
    → set_at (filter_map_values f es) k (option_and_then f w) ≡ filter_map_values f (with_value es k w)
kept-with_value f k None es h = sym (kept-without f k es h)
kept-with_value f k (Some x) es h = sym (kept-put f k x es h)

kept-over : {X Y : Type 0} (f : X → Option Y) (ws us : List (Text × Option X)) (es : List (Text × X))
    → AreInOrder us → AreInOrder es → filter_map_values (option_and_then f) us ≡ filter_map_values f es
    → filter_map_values (option_and_then f) (overlay ws us) ≡ filter_map_values f (with_changes ws es)
kept-over f [] us es a b h = h
kept-over {X} {Y} f (w ∷ ws) us es a b h =
    kept-over f ws (put us w.0 w.1) (with_value es w.0 w.1) (sorted-put w.0 w.1 us a) (sorted-with_value w.0 w.1 es b)
    (kept-put (option_and_then f) w.0 w.1 us a
    ∙ ap (λ (zs : List (Text × Y)). set_at zs w.0 (option_and_then f w.1)) h
    ∙ kept-with_value f w.0 w.1 es b)

-- what is kept of changes over values is what is kept of the values after the changes
kept-overlaid : {X Y : Type 0} (f : X → Option Y) (ws : List (Text × Option X)) (es : List (Text × X)) → AreInOrder es
    → filter_map_values (option_and_then f) (overlay ws (some_values es)) ≡ filter_map_values f (with_changes ws es)
kept-overlaid f ws es h =
    kept-over f ws (some_values es) es (subst (λ ks. IsStrictlySortedBy (slice_cmp nat_cmp) ks) (keys-present es) h) h
    (kept-present f es)

-- the rows of changes over versions are those of the versions after the changes
pub rows-overlaid : {V : Type 0} (item_of : V → Item) (ws : List (Text × Option V)) (es : List (Text × V))
    → AreInOrder es
    → rows_named item_of (overlay ws (some_values es)) ≡ rows_of item_of (with_changes ws es)
rows-overlaid {V} item_of ws es h = kept-overlaid (λ (v : V). row_of (item_of v)) ws es h

-- the value with this number
value-at : {X : Type 0} (es : List (Text × X)) (n : ℕ)
    → option_map (λ (e : Text × X). e.1) (slice_get es n) ≡ slice_get (values_of es) n
value-at [] n = refl
value-at (e ∷ es) zero = refl
value-at (e ∷ es) (suc n) = value-at es n

value-of : {X : Type 0} (r : Option (Bor Text × Bor X))
    → option_map (λ (p : Bor Text × Bor X). p.1.now) r ≡ option_map (λ (e : Text × X). e.1) (option_map deref_pair r)
value-of None = refl
value-of (Some p) = refl

pub nth-value : {X : Type 0} (s u all : List (Text × X)) (r : Option (Bor Text × Bor X)) (n : ℕ)
    → SkipsThenYields (YieldsFirstBy deref_pair (λ (rest : List (Text × X)). rest)) s n r u → s ≡ all
    → option_map (λ (p : Bor Text × Bor X). p.1.now) r ≡ slice_get (values_of all) n
nth-value {X} s u all r n ran same =
    value-of r
    ∙ ap (option_map (λ (e : Text × X). e.1))
    (nth_from_yields_List r u n ran (YieldsList-from_first deref_pair (λ (rest : List (Text × X)). rest) all same))
    ∙ value-at all n
