-- what is noted of entries
use Rattle.std.proofs.Common.{◌≡◌, List, [], ◌∷◌, ◌++◌, Bool, true, false, cond, ◌||◌, is_some, refl, sym, ap, ◌∙◌}
use Rattle.std.proofs.Common.{Option, None, Some}
use Rattle.std.proofs.Math.Bool.{or-false, or-true}
use Rattle.std.specs.Prelude.{if◌then◌else◌}
use Rattle.std.specs.List.{list_any}
use Rattle.std.specs.Ordering.{is_eq}
use Rattle.casa_filing.specs.Text.{Text, at_name, put, same_text}
use Rattle.casa_filing.proofs.Entries.{text_cmp, named, at-put}
use Rattle.casa_view.specs.Taking.{Sees}
use Rattle.casa_named.proofs.Found.{same_test}

-- one name more is noted
seen_one : {V : Type 0} (k q : Text) (es : List (Text × V)) (noted : Option (Option V)) (t b : Bool) →
    same_text k q ≡ b → noted ≡ (if t then Some (at_name es q) else None) →
    cond b (Some (at_name es k)) noted ≡ (if b || t then Some (at_name es q) else None)
seen_one k q es noted t true e h = ap (λ (n : Text). Some (at_name es n)) (named k q e)
seen_one k q es noted t false e h = h

pub see : {V : Type 0} (k : Text) (es : List (Text × V)) (w : Option V) (noted noted' : List (Text × Option V)) →
    w ≡ at_name es k → noted' ≡ put noted k w →
    (t : Text → Bool) → Sees es t noted → Sees es (λ q. same_text k q || t q) noted'
see {V} k es w noted noted' is are t h q =
    ap (λ (ns : List (Text × Option V)). at_name ns q) are ∙ at-put q k w noted
    ∙ (λ i. cond (same_test k q i) (Some (is i)) (at_name noted q))
    ∙ seen_one k q es (at_name noted q) (t q) (same_text k q) refl (h q)

-- the same test
pub sees_same : {V : Type 0} (es : List (Text × V)) (t u : Text → Bool) (noted : List (Text × Option V)) →
    ((q : Text) → t q ≡ u q) → Sees es t noted → Sees es u noted
sees_same es t u noted e h q = h q ∙ ap (λ (b : Bool). if b then Some (at_name es q) else None) (e q)

-- nothing noted
pub sees_nothing : {V : Type 0} (es : List (Text × V)) (noted : List (Text × Option V)) →
    noted ≡ [] → Sees es (λ q. false) noted
sees_nothing {V} es noted e q = ap (λ (ns : List (Text × Option V)). at_name ns q) e

pub sees_last : {V : Type 0} (es : List (Text × V)) (t : Text → Bool) (noted : List (Text × Option V)) →
    Sees es (λ q. t q || false) noted → Sees es t noted
sees_last es t noted h = sees_same es (λ q. t q || false) t noted (λ q. or-false (t q)) h

pub some-push : {X : Type 0} (es : List (Text × X)) (e : Text × X) (q : Text) (b : Bool) →
    (same_text e.0 q || (is_some (at_name es q) || b)) ≡ (is_some (at_name (es ++ e ∷ []) q) || b)
some-push {X} [] e q b = ap (λ (t : Bool). t || b) (sym (same_test e.0 q)) ∙ one (is_eq (text_cmp q e.0))
  where
    one : (t : Bool) → (t || b) ≡ (is_some (cond t (Some e.1) None) || b)
    one true = refl
    one false = refl
some-push {X} (f ∷ es) e q b = more (is_eq (text_cmp q f.0)) (some-push es e q b)
  where
    more : (t : Bool) →
        (same_text e.0 q || (is_some (at_name es q) || b)) ≡ (is_some (at_name (es ++ e ∷ []) q) || b) →
        (same_text e.0 q || (is_some (cond t (Some f.1) (at_name es q)) || b))
        ≡ (is_some (cond t (Some f.1) (at_name (es ++ e ∷ []) q)) || b)
    more true h = or-true (same_text e.0 q)
    more false h = h

pub any-push : {X : Type 0} (p : X → Bool) (xs : List X) (x : X) (b : Bool) →
    (p x || (list_any p xs || b)) ≡ (list_any p (xs ++ x ∷ []) || b)
any-push p [] x b = one (p x)
  where
    one : (t : Bool) → (t || (false || b)) ≡ ((t || false) || b)
    one true = refl
    one false = refl
any-push p (y ∷ xs) x b = more (p y) (any-push p xs x b)
  where
    more : (t : Bool) → (p x || (list_any p xs || b)) ≡ (list_any p (xs ++ x ∷ []) || b) →
        (p x || ((t || list_any p xs) || b)) ≡ ((t || list_any p (xs ++ x ∷ [])) || b)
    more true h = or-true (p x)
    more false h = h
