-- names, and what is written under them
use Rattle.std.proofs.Common.{◌≡◌, ℕ, List, Bool, true, false, refl, sym, ap, subst, ◌∙◌, ◌||◌, Option, None, Some, is_some, if◌then◌else◌}
use Rattle.std.specs.Option.{option_map, option_map_or}
use Rattle.std.proofs.lemmas.Bool.{both_ways}
use Rattle.std.proofs.lemmas.Cmp.{nat_list_eq_equiv}
use Rattle.casa_flight.specs.declared.row.Row.{Row}
use Rattle.casa_filing.specs.Text.{Text, same_text, at_name, put}
use Rattle.casa_flight.specs.State.{is_governed_by}
use Rattle.casa_flight.specs.Listing.{stance}
use Rattle.casa_filing.proofs.Entries.{named}
use Rattle.casa_plan_spec.proofs.Changes.{at-put_by}

pub other_text : (a b : Text) → same_text a b ≡ false → same_text b a ≡ false
other_text a b h =
    elim (same_text b a) as (λ t. same_text b a ≡ t → t ≡ false) [
      | true ↦ λ e. absurd (both_ways _ h (subst (λ q. same_text a q ≡ true) (sym (named b a e)) (nat_list_eq_equiv.refl a)))
      | false ↦ λ e. refl
    ] refl

pub governed_other : (row : Row) (id other : Text) → row.governing ≡ Some id → same_text id other ≡ false → is_governed_by other row ≡ false
governed_other row id other g h = ap (λ (w : Option Text). option_map_or (same_text other) w false) g ∙ other_text id other h

pub forced_either : (i j : Option ℕ) (g h : Bool) (w : Option ℕ) → g ≡ false → h ≡ false → option_map (stance g i) w ≡ option_map (stance h j) w
forced_either i j g h w p q = ap (λ b. option_map (stance b i) w) p ∙ by w ∙ sym (ap (λ b. option_map (stance b j) w) q)
  where
    by : (w : Option ℕ) → option_map (stance false i) w ≡ option_map (stance false j) w
    by None = refl
    by (Some eto) = refl

pub text_turn : (a b : Text) → same_text a b ≡ same_text b a
text_turn a b =
    elim (same_text a b) as (λ t. same_text a b ≡ t → t ≡ same_text b a) [
      | true ↦ λ e. sym (subst (λ q. same_text q a ≡ true) (named a b e) (nat_list_eq_equiv.refl a))
      | false ↦ λ e. sym (other_text a b e)
    ] refl

pub or_none : (b : Bool) → b ≡ (b || false)
or_none true = refl
or_none false = refl

-- what stands under a name once something is put in
pub named_put : {X : Type 0} (q k : Text) (x : X) (es : List (Text × X)) → is_some (at_name (put es k x) q) ≡ (is_some (at_name es q) || same_text k q)
named_put {X} q k x es = ap is_some (at-put_by q k x es) ∙ by (same_text k q) (at_name es q)
  where
    by : (b : Bool) (o : Option X) → is_some (if b then Some x else o) ≡ (is_some o || b)
    by true None = refl
    by true (Some y) = refl
    by false o = or_none (is_some o)
