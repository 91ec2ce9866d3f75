-- lists that are changed where they lie
use Rattle.std.proofs.Common.{◌≡◌, ℕ, Bool, true, false, cond, List, [], ◌∷◌, refl, sym, ap, subst, ◌∙◌, Option, None, Some, Result, Ok, Err}
use Rattle.std.specs.Map.{keys_of}
use Rattle.std.specs.BTreeMap.{is_at}
use Rattle.std.specs.Ordering.{is_eq}
use Rattle.std.proofs.lemmas.Map.{keys-set_value}
use Rattle.std.proofs.lemmas.Map.Steps.{set_value_same}
use Rattle.casa_filing.specs.Text.{Text, at_name}
use Rattle.casa_filing.proofs.Entries.{text_cmp, same_name}
use Rattle.casa_plan_spec.specs.Sight.{Stand}
use Rattle.casa_item.specs.declared.item.Item.{Item}
use Rattle.casa_item.specs.Stood.{AreStood, DoneOr, IsStood, IsStoodAt, in_place}

-- an entry in the place of one that is not there
absent_step : {X : Type 0} (k : Text) (x : X) (e : Text × X) (es : List (Text × X)) (b : Bool) → (at_name es k ≡ None → in_place es k x ≡ es) → cond b (Some e.1) (at_name es k) ≡ None → cond b ((e.0, x) ∷ es) (e ∷ in_place es k x) ≡ e ∷ es
absent_step k x e es true more absent = cc
absent_step k x e es false more absent = ap (λ fs. e ∷ fs) (more absent)

pub in_place-absent : {X : Type 0} (k : Text) (x : X) (es : List (Text × X)) → at_name es k ≡ None → in_place es k x ≡ es
in_place-absent k x [] absent = refl
in_place-absent k x (e ∷ es) absent = absent_step k x e es (is_eq (text_cmp k e.0)) (in_place-absent k x es) absent

-- one entry after another in one place
twice_step : {X : Type 0} (k : Text) (x y : X) (e : Text × X) (es : List (Text × X)) (b : Bool) → is_eq (text_cmp k e.0) ≡ b → in_place (in_place es k x) k y ≡ in_place es k y → in_place (cond b ((e.0, x) ∷ es) (e ∷ in_place es k x)) k y ≡ cond b ((e.0, y) ∷ es) (e ∷ in_place es k y)
twice_step k x y e es true at more = ap (λ b. cond b ((e.0, y) ∷ es) ((e.0, x) ∷ in_place es k y)) at
twice_step k x y e es false at more =
    ap (λ b. cond b ((e.0, y) ∷ in_place es k x) (e ∷ in_place (in_place es k x) k y)) at ∙ ap (λ fs. e ∷ fs) more

pub in_place-twice : {X : Type 0} (k : Text) (x y : X) (es : List (Text × X)) → in_place (in_place es k x) k y ≡ in_place es k y
in_place-twice k x y [] = refl
in_place-twice k x y (e ∷ es) = twice_step k x y e es (is_eq (text_cmp k e.0)) refl (in_place-twice k x y es)

-- an entry that was taken out, and put back
pub put_back : {X : Type 0} (k : Text) (x stub : X) (before between after : List (Text × X)) → at_name before k ≡ Some x → between ≡ in_place before k stub → after ≡ in_place between k x → after ≡ before
put_back k x stub before between after was stubbed back =
    back ∙ ap (λ es. in_place es k x) stubbed ∙ in_place-twice k stub x before
    ∙ set_value_same (is_at (text_cmp k)) before x was

kept_between : {X : Type 0} (k : Text) (x y : X) (es fs : List (Text × X)) → x ≡ y → es ≡ fs → in_place es k x ≡ in_place fs k y
kept_between k x y es fs one all = ap (λ z. in_place es k z) one ∙ ap (λ gs. in_place gs k y) all

-- what is found there
at_step : {X : Type 0} (k : Text) (x w : X) (e : Text × X) (es : List (Text × X)) (b : Bool) → is_eq (text_cmp k e.0) ≡ b → (at_name es k ≡ Some w → at_name (in_place es k x) k ≡ Some x) → cond b (Some e.1) (at_name es k) ≡ Some w → at_name (cond b ((e.0, x) ∷ es) (e ∷ in_place es k x)) k ≡ Some x
at_step k x w e es true at more was = ap (λ b. cond b (Some x) (at_name es k)) at
at_step k x w e es false at more was = ap (λ b. cond b (Some e.1) (at_name (in_place es k x) k)) at ∙ more was

at-in_place : {X : Type 0} (k : Text) (x w : X) (es : List (Text × X)) → at_name es k ≡ Some w → at_name (in_place es k x) k ≡ Some x
at-in_place k x w [] was = cc
at-in_place k x w (e ∷ es) was = at_step k x w e es (is_eq (text_cmp k e.0)) refl (at-in_place k x w es) was

other_step : {X : Type 0} (q k : Text) (x : X) (e : Text × X) (es : List (Text × X)) (b : Bool) → is_eq (text_cmp k e.0) ≡ b → is_eq (text_cmp q k) ≡ false → at_name (in_place es k x) q ≡ at_name es q → at_name (cond b ((e.0, x) ∷ es) (e ∷ in_place es k x)) q ≡ at_name (e ∷ es) q
other_step q k x e es true at other more =
    let apart : is_eq (text_cmp q e.0) ≡ false = ap (λ n. is_eq (text_cmp q n)) (sym (same_name k e.0 at)) ∙ other in
    ap (λ b. cond b (Some x) (at_name es q)) apart ∙ sym (ap (λ b. cond b (Some e.1) (at_name es q)) apart)
other_step q k x e es false at other more = ap (λ o. cond (is_eq (text_cmp q e.0)) (Some e.1) o) more

at-in_place_other : {X : Type 0} (q k : Text) (x : X) (es : List (Text × X)) → is_eq (text_cmp q k) ≡ false → at_name (in_place es k x) q ≡ at_name es q
at-in_place_other q k x [] other = refl
at-in_place_other q k x (e ∷ es) other =
    other_step q k x e es (is_eq (text_cmp k e.0)) refl other (at-in_place_other q k x es other)

some_is : {X : Type 0} {x y : X} → Some x ≡ Some y → x ≡ y
some_is h = cc

-- no list is to be changed
pub none_stood : {V : Type 0} (item_of : V → Item) (stamp_of : V → ℕ) (position : ℕ) (es : List (Text × V)) → AreStood item_of stamp_of position [] es es
none_stood item_of stamp_of position es = record { names = refl; stood = λ q s h. cc; others = λ q h. refl }

-- the others are, while another version stands in for the first
module _ {V : Type 0} (item_of : V → Item) (stamp_of : V → ℕ) (position : ℕ) (k : Text) (s : Stand) (stands : List (Text × Stand)) (was stub now : V) (before between changed after : List (Text × V))
    (there : at_name before k ≡ Some was) (stubbed : between ≡ in_place before k stub)
    (rest : AreStood item_of stamp_of position stands between changed)
    (back : after ≡ in_place changed k now) (one : IsStood item_of stamp_of position s was now) where
  found_by : (o : Option Stand) → at_name stands k ≡ o → (w : V) × (at_name changed k ≡ Some w)
  found_by None h = (stub, rest.others k h ∙ ap (λ es. at_name es k) stubbed ∙ at-in_place k stub was before there)
  found_by (Some t) h = let r = rest.stood k t h in (r.written, r.is)

  here : at_name after k ≡ Some now
  here = let f = found_by (at_name stands k) refl in ap (λ es. at_name es k) back ∙ at-in_place k now f.0 changed f.1

  before_there : (q : Text) → is_eq (text_cmp q k) ≡ false → at_name between q ≡ at_name before q
  before_there q other = ap (λ es. at_name es q) stubbed ∙ at-in_place_other q k stub before other

  after_there : (q : Text) → is_eq (text_cmp q k) ≡ false → at_name after q ≡ at_name changed q
  after_there q other = ap (λ es. at_name es q) back ∙ at-in_place_other q k now changed other

  stood_by : (q : Text) (t : Stand) (b : Bool) → is_eq (text_cmp q k) ≡ b → cond b (Some s) (at_name stands q) ≡ Some t → IsStoodAt item_of stamp_of position t (at_name before q) (at_name after q)
  stood_by q t true same h =
      subst (λ n. IsStoodAt item_of stamp_of position t (at_name before n) (at_name after n)) (sym (same_name q k same))
      (record {
        version = was;
        written = now;
        was = there;
        is = here;
        stood = subst (λ (u : Stand). IsStood item_of stamp_of position u was now) (some_is h) one;
      })
  stood_by q t false other h =
      let r = rest.stood q t h in
      record {
        version = r.version;
        written = r.written;
        was = sym (before_there q other) ∙ r.was;
        is = after_there q other ∙ r.is;
        stood = r.stood;
      }

  others_by : (q : Text) (b : Bool) → is_eq (text_cmp q k) ≡ b → cond b (Some s) (at_name stands q) ≡ None → at_name after q ≡ at_name before q
  others_by q true same h = cc
  others_by q false other h = after_there q other ∙ rest.others q h ∙ before_there q other

  pub one_more_stood : AreStood item_of stamp_of position ((k, s) ∷ stands) before after
  one_more_stood = record {
    names = ap keys_of back ∙ keys-set_value (is_at (text_cmp k)) changed now ∙ rest.names ∙ ap keys_of stubbed
        ∙ keys-set_value (is_at (text_cmp k)) before stub;
    stood = λ q t h. stood_by q t (is_eq (text_cmp q k)) refl h;
    others = λ q h. others_by q (is_eq (text_cmp q k)) refl h;
  }

-- the first list was changed, and the others, or none was
pub settled : {V : Type 0} {E : Type 0} (item_of : V → Item) (stamp_of : V → ℕ) (position : ℕ) (r : Result Bool E) (k : Text) (s : Stand) (stands : List (Text × Stand)) (was stub now : V) (before between changed after : List (Text × V)) → at_name before k ≡ Some was → between ≡ in_place before k stub → DoneOr r (IsStood item_of stamp_of position s was now) (now ≡ was) → DoneOr r (AreStood item_of stamp_of position stands between changed) (changed ≡ between) → after ≡ in_place changed k now → DoneOr r (AreStood item_of stamp_of position ((k, s) ∷ stands) before after) (after ≡ before)
settled item_of stamp_of position (Ok true) k s stands was stub now before between changed after there stubbed one rest back =
    one_more_stood item_of stamp_of position k s stands was stub now before between changed after there stubbed rest back one
settled item_of stamp_of position (Ok false) k s stands was stub now before between changed after there stubbed one rest back =
    put_back k was stub before between after there stubbed (back ∙ kept_between k now was changed between one rest)
settled item_of stamp_of position (Err e) k s stands was stub now before between changed after there stubbed one rest back =
    put_back k was stub before between after there stubbed (back ∙ kept_between k now was changed between one rest)
