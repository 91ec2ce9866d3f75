-- keys in sets and maps, as contracts test them
use Rattle.std.proofs.Common.{◌≡◌, ◌∙◌, ◌++◌, ◌∷◌, [], List, Bool, true, false, cond, refl, sym, ap, subst, Option, Some}
use Rattle.std.specs.Prelude.{◌||◌, if◌then◌else◌}
use Rattle.std.specs.Ordering.{is_eq}
use Rattle.std.specs.BTreeMap.{is_at}
use Rattle.std.specs.Option.{option_map_or}
use Rattle.casa_filing.specs.Text.{Text, same_text, at_name}
use Rattle.casa_filing.proofs.Entries.{apart, itself, named, other_way, text_cmp}

-- a look-up meets a name where the two are the same
pub same_test : (a b : Text) → is_at (text_cmp a) b ≡ same_text a b
same_test a b = by (same_text a b) refl
  where
    by : (t : Bool) → same_text a b ≡ t → is_eq (text_cmp a b) ≡ t
    by true e = subst (λ (q : Text). is_eq (text_cmp a q) ≡ true) (named a b e) (itself a)
    by false e = other_way b a (apart a b e)

pub cond-true : (b x : Bool) → cond b true x ≡ (b || x)
cond-true true x = refl
cond-true false x = refl

pub or-one_more : (x y : Bool) → (x || y) ≡ (y || (x || false))
or-one_more true true = refl
or-one_more true false = refl
or-one_more false true = refl
or-one_more false false = refl

-- what stands under each name, once one has an item more
pub found-more : {V X : Type 0} (items : V → List X) (key : Text) (old : Option V) (new : V) (es now : List (Text × V)) (x : X)
    → at_name es key ≡ old → ((q : Text) → at_name now q ≡ cond (is_at (text_cmp key) q) (Some new) (at_name es q))
    → items new ≡ option_map_or items old [] ++ x ∷ []
    → (q : Text) → option_map_or items (at_name now q) []
    ≡ (if same_text key q then option_map_or items (at_name es q) [] ++ x ∷ [] else option_map_or items (at_name es q) [])
found-more {V} {X} items key old new es now x there placed more q = by (same_text key q) refl
  where
    by : (t : Bool) → same_text key q ≡ t → option_map_or items (at_name now q) []
        ≡ (if t then option_map_or items (at_name es q) [] ++ x ∷ [] else option_map_or items (at_name es q) [])
    by true e =
        let was : at_name es q ≡ old = subst (λ (p : Text). at_name es p ≡ old) (named key q e) there in
        ap (λ (o : Option V). option_map_or items o []) (placed q ∙ ap (λ b. cond b (Some new) (at_name es q)) (same_test key q ∙ e))
        ∙ more ∙ ap (λ (o : Option V). option_map_or items o [] ++ x ∷ []) (sym was)
    by false e = ap (λ (o : Option V). option_map_or items o []) (placed q ∙ ap (λ b. cond b (Some new) (at_name es q)) (same_test key q ∙ e))
