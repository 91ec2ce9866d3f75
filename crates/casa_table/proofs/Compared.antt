-- entries that are gone through from the first to the last: what holds of each holds of all that a look-up finds
use Rattle.std.proofs.Common.{◌≡◌, List, [], ◌∷◌, Bool, true, false, cond, refl, sym, ap, ◌∙◌, Option, None, Some}
use Rattle.std.proofs.Common.{subst}
use Rattle.std.specs.Ordering.{is_eq}
use Rattle.std.specs.List.Sorted.{IsStrictlySortedBy}
use Rattle.casa_filing.specs.Text.{Text, at_name}
use Rattle.casa_flight.specs.Good.{AreInOrder}
use Rattle.casa_filing.proofs.Entries.{text_cmp, same_name, itself}
use Rattle.casa_laws.proofs.Kept.{at_above}
use Rattle.casa_table.specs.Laid.{with_changes}
use Rattle.casa_table.proofs.Layers.{at-below}

-- one entry earlier
pub each-earlier : {X : Type 0} (P : Text → X → Type 0) (es rest : List (Text × X)) (k : Text) (x : X)
    → es ≡ (k, x) ∷ rest → P k x
    → (q : Text) → ((w : X) → at_name rest q ≡ Some w → P q w) → (w : X) → at_name es q ≡ Some w → P q w
each-earlier {X} P es rest k x is here q later w found =
    by (is_eq (text_cmp q k)) refl (sym (ap (λ (fs : List (Text × X)). at_name fs q) is) ∙ found)
  where
    by : (b : Bool) → is_eq (text_cmp q k) ≡ b → cond b (Some x) (at_name rest q) ≡ Some w → P q w
    by true t g =
        let value : x ≡ w = cc in
        subst (λ (v : X). P q v) value (subst (λ (p : Text). P p x) (sym (same_name q k t)) here)
    by false t g = later w g

pub no-later : {X : Type 0} {P : Type 0} (rest : List (Text × X)) (q : Text) (w : X) → rest ≡ []
    → at_name rest q ≡ Some w → P
no-later {X} rest q w is found =
    let none : None ≡ Some w = sym (ap (λ (fs : List (Text × X)). at_name fs q) is) ∙ found in cc

-- in order, the first entry is found under its name, and later ones are found past it
pub first-found : {X : Type 0} (es rest : List (Text × X)) (k : Text) (x : X) → es ≡ (k, x) ∷ rest
    → at_name es k ≡ Some x
first-found {X} es rest k x is =
    ap (λ (fs : List (Text × X)). at_name fs k) is ∙ ap (λ b. cond b (Some x) (at_name rest k)) (itself k)

pub later-in-order : {X : Type 0} (es rest : List (Text × X)) (k : Text) (x : X) → es ≡ (k, x) ∷ rest → AreInOrder es
    → AreInOrder rest
unfolding IsStrictlySortedBy
later-in-order {X} es rest k x is order = (subst (λ (fs : List (Text × X)). AreInOrder fs) is order).1

pub later-found : {X : Type 0} (es rest : List (Text × X)) (k : Text) (x : X) → es ≡ (k, x) ∷ rest → AreInOrder es
    → (q : Text) (w : X) → at_name rest q ≡ Some w → at_name es q ≡ Some w
unfolding IsStrictlySortedBy
later-found {X} es rest k x is order q w found =
    ap (λ (fs : List (Text × X)). at_name fs q) is ∙ by (is_eq (text_cmp q k)) refl
  where
    above : (p : Text) → p ≡ k → at_name rest p ≡ None
    above p e =
        subst (λ (t : Text). at_name rest t ≡ None) (sym e)
        (at_above k rest (subst (λ (fs : List (Text × X)). AreInOrder fs) is order).0)

    by : (b : Bool) → is_eq (text_cmp q k) ≡ b → cond b (Some x) (at_name rest q) ≡ Some w
    by true t = let none : None ≡ Some w = sym (above q (same_name q k t)) ∙ found in cc
    by false t = found

-- two layers of entries on each side: what holds under the names of the changes holds under all, if it holds under
-- those of neither
module _ {X : Type 0} (P : Option X → Option X → Type 0) (ts ss es fs : List (Text × X))
    (ws vs : List (Text × Option X)) where
  pub all-layers : with_changes ws es ≡ ts → with_changes vs fs ≡ ss → AreInOrder es × AreInOrder ws → AreInOrder fs × AreInOrder vs
      → ((q : Text) (w : Option X) → at_name ws q ≡ Some w → P (at_name ts q) (at_name ss q))
      → ((q : Text) (w : Option X) → at_name vs q ≡ Some w → P (at_name ts q) (at_name ss q))
      → ((q : Text) → at_name ts q ≡ at_name es q → at_name ss q ≡ at_name fs q → P (at_name ts q) (at_name ss q))
      → (q : Text) → P (at_name ts q) (at_name ss q)
  all-layers t s a b ours theirs below q = by (at_name ws q) (at_name vs q) refl refl
    where
      by : (x y : Option (Option X)) → at_name ws q ≡ x → at_name vs q ≡ y → P (at_name ts q) (at_name ss q)
      by (Some x) y h k = ours q x h
      by None (Some y) h k = theirs q y k
      by None None h k =
          below q (sym (ap (λ (gs : List (Text × X)). at_name gs q) t) ∙ at-below q ws es a.1 a.0 h)
          (sym (ap (λ (gs : List (Text × X)). at_name gs q) s) ∙ at-below q vs fs b.1 b.0 k)

  pub by-values : ((q : Text) → P (at_name es q) (at_name fs q))
      → (q : Text) → at_name ts q ≡ at_name es q → at_name ss q ≡ at_name fs q → P (at_name ts q) (at_name ss q)
  by-values h q e f =
      subst (λ (x : Option X). P x (at_name ss q)) (sym e) (subst (λ (y : Option X). P (at_name es q) y) (sym f) (h q))

  pub by-names : P None None
      → ((q : Text) (w : X) → at_name es q ≡ Some w → P (at_name ts q) (at_name ss q))
      → ((q : Text) (w : X) → at_name fs q ≡ Some w → P (at_name ts q) (at_name ss q))
      → (q : Text) → at_name ts q ≡ at_name es q → at_name ss q ≡ at_name fs q → P (at_name ts q) (at_name ss q)
  by-names none ours theirs q e f = by (at_name es q) (at_name fs q) refl refl
    where
      by : (x y : Option X) → at_name es q ≡ x → at_name fs q ≡ y → P (at_name ts q) (at_name ss q)
      by (Some w) y h k = ours q w h
      by None (Some w) h k = theirs q w k
      by None None h k =
          subst (λ (x : Option X). P x (at_name ss q)) (sym (e ∙ h))
          (subst (λ (y : Option X). P None y) (sym (f ∙ k)) none)
