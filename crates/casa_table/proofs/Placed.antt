-- what stands at each location, once the passings at one are others
use Rattle.std.proofs.Common.{◌≡◌, List, Bool, true, false, cond, refl, sym, ap, ◌∙◌, Option, Some, []}
use Rattle.std.specs.Ordering.{is_eq}
use Rattle.std.specs.Option.{option_map_or}
use Rattle.std.specs.BTreeMap.{is_at}
use Rattle.std.specs.BTreeSet.{BTreeSet}
use Rattle.casa_filing.specs.Text.{Text, at_name}
use Rattle.casa_filing.proofs.Entries.{text_cmp, same_name}
use Rattle.casa_table.specs.declared.flights.Passing.{Passing}
use Rattle.casa_table.specs.contracts.flights.PassingOrd.TheImpl.{ghosts as passings}
use Rattle.casa_table.specs.Passing.{has_passing, passings_at, HaveMore}

-- these passings stand at a location now, and at every other what stood there
abbrev pub IsPlaced : Text → BTreeSet Passing → List (Text × BTreeSet Passing) → List (Text × BTreeSet Passing) → Type 0
IsPlaced loc new es now = (q : Text) → at_name now q ≡ cond (is_at (text_cmp loc) q) (Some new) (at_name es q)

-- whether a passing is among those at a location, if there are any
abbrev pub found : Passing → Option (BTreeSet Passing) → Bool
found p w = has_passing (option_map_or (λ (s : BTreeSet Passing). s.keys) w []) p

pub more_placed : (loc : Text) (old : Option (BTreeSet Passing)) (new : BTreeSet Passing)
    (es now : List (Text × BTreeSet Passing)) → at_name es loc ≡ old → IsPlaced loc new es now
    → ((p : Passing) → found p old ≡ true → has_passing new.keys p ≡ true)
    → HaveMore (passings_at es) (passings_at now)
more_placed loc old new es now there placed more q p h = by (is_eq (text_cmp loc q)) refl
  where
    by : (b : Bool) → is_eq (text_cmp loc q) ≡ b → has_passing (passings_at now q) p ≡ true
    by true t =
        let was : at_name es q ≡ old = ap (at_name es) (sym (same_name loc q t)) ∙ there in
        ap (found p) (placed q ∙ ap (λ b. cond b (Some new) (at_name es q)) t) ∙ more p (sym (ap (found p) was) ∙ h)
    by false t = ap (found p) (placed q ∙ ap (λ b. cond b (Some new) (at_name es q)) t) ∙ h

pub others_placed : (loc : Text) (old : Option (BTreeSet Passing)) (new : BTreeSet Passing)
    (es now : List (Text × BTreeSet Passing)) (e : Passing) → at_name es loc ≡ old → IsPlaced loc new es now
    → ((p : Passing) → is_at (passings.cmp e) p ≡ false → has_passing new.keys p ≡ found p old)
    → (q : Text) (p : Passing) → (q ≡ loc → is_at (passings.cmp e) p ≡ false)
    → has_passing (passings_at now q) p ≡ has_passing (passings_at es q) p
others_placed loc old new es now e there placed others q p apart = by (is_eq (text_cmp loc q)) refl
  where
    by : (b : Bool) → is_eq (text_cmp loc q) ≡ b → has_passing (passings_at now q) p ≡ has_passing (passings_at es q) p
    by true t =
        let same : loc ≡ q = same_name loc q t in
        let was : at_name es q ≡ old = ap (at_name es) (sym same) ∙ there in
        ap (found p) (placed q ∙ ap (λ b. cond b (Some new) (at_name es q)) t)
        ∙ others p (apart (sym same)) ∙ sym (ap (found p) was)
    by false t = ap (found p) (placed q ∙ ap (λ b. cond b (Some new) (at_name es q)) t)
