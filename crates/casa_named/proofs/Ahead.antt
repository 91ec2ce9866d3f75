-- the first entry and the others: what a look-up finds, and what stands once an entry is put in or taken out
use Rattle.std.proofs.Common.{◌≡◌, List, [], ◌∷◌, Bool, true, false, cond, refl, sym, ap, ◌∙◌, subst, Option, None, Some}
use Rattle.std.specs.declared.cmp.Ordering.{Ordering}
use Rattle.std.specs.declared.cmp.Ordering.TheVariants.{Less, Greater}
use Rattle.std.specs.Ordering.{match_ordering}
use Rattle.std.specs.List.Sorted.{IsStrictlySortedBy}
use Rattle.std.specs.Map.{keys_of}
use Rattle.std.specs.BTreeMap.{is_at}
use Rattle.casa_filing.specs.Text.{Text, at_name, put, same_text, without}
use Rattle.casa_flight.specs.Good.{AreInOrder}
use Rattle.casa_filing.proofs.Entries.{text_cmp, after_all, sorted-put, sorted-remove}
use Rattle.casa_laws.proofs.Kept.{Above}
use Rattle.casa_named.specs.Named.{ahead, IsFew}
use Rattle.casa_named.proofs.Found.{same_test}

-- an entry that comes before all others is put in as the first
put-before : {X : Type 0} (k : Text) (x : X) (es : List (Text × X)) → Above k es → put es k x ≡ (k, x) ∷ es
put-before k x [] h = refl
put-before {X} k x (e ∷ es) h =
    ap (λ (r : Ordering). match_ordering r ((k, x) ∷ e ∷ es) ((e.0, x) ∷ es) (e ∷ put es k x)) h.0

module _ {X : Type 0} (name : Text) (x : X) where
  pub alone-few : (os : List (Text × X)) → os ≡ [] → IsFew (Some (name, x)) os
  unfolding IsStrictlySortedBy
  alone-few os none = record {
    ordered = subst (λ es. AreInOrder ((name, x) ∷ es)) (sym none) (tt, tt);
    alone = λ e. cc;
  }

  pub alone-put : (first : Option (Text × X)) (os now : List (Text × X)) → IsFew first os → ahead first os ≡ now
      → first ≡ None → (name, x) ∷ os ≡ put now name x
  alone-put first os now few view none =
      ap (λ es. (name, x) ∷ es) (few.alone none)
      ∙ ap (λ es. put es name x) (sym (ap (λ f. ahead f os) none) ∙ view)

module _ {X : Type 0} (k : Text) (v : X) (os : List (Text × X)) (name : Text) where
  pub found : same_text k name ≡ true → Some v ≡ at_name ((k, v) ∷ os) name
  found h = ap (λ (b : Bool). cond b (Some v) (at_name os name)) (sym (same_test k name ∙ h))

  pub not_first : same_text k name ≡ false → at_name os name ≡ at_name ((k, v) ∷ os) name
  not_first h = ap (λ (b : Bool). cond b (Some v) (at_name os name)) (sym (same_test k name ∙ h))

  pub first-left : same_text k name ≡ true → os ≡ without ((k, v) ∷ os) name
  first-left h = ap (λ (b : Bool). cond b os ((k, v) ∷ without os name)) (sym (same_test k name ∙ h))

  pub other-left : same_text k name ≡ false → (k, v) ∷ without os name ≡ without ((k, v) ∷ os) name
  other-left h = ap (λ (b : Bool). cond b os ((k, v) ∷ without os name)) (sym (same_test k name ∙ h))

module _ {X : Type 0} (k : Text) (v : X) (os : List (Text × X)) (few : IsFew (Some (k, v)) os) (name : Text) where
  pub before-put : (x : X) → text_cmp name k ≡ Less → (name, x) ∷ put os k v ≡ put ((k, v) ∷ os) name x
  unfolding IsStrictlySortedBy
  before-put x less =
      ap (λ es. (name, x) ∷ es) (put-before k v os few.ordered.0)
      ∙ sym (ap (λ (r : Ordering). match_ordering r ((name, x) ∷ (k, v) ∷ os) ((k, x) ∷ os) ((k, v) ∷ put os name x)) less)

  pub before-few : (x : X) (others : List (Text × X)) → text_cmp name k ≡ Less → others ≡ put os k v
      → IsFew (Some (name, x)) others
  unfolding IsStrictlySortedBy
  before-few x others less is = record {
    ordered = subst (λ es. AreInOrder ((name, x) ∷ es)) (sym (is ∙ put-before k v os few.ordered.0))
        ((less, after_all name k less (keys_of os) few.ordered.0), few.ordered);
    alone = λ e. cc;
  }

  pub behind-few : (x : X) (others : List (Text × X)) → text_cmp name k ≡ Greater → others ≡ put os name x
      → IsFew (Some (k, v)) others
  behind-few x others greater is = record {
    ordered = subst (λ es. AreInOrder ((k, v) ∷ es)) (sym is)
        (subst (λ (r : Ordering). AreInOrder (match_ordering r ((name, x) ∷ (k, v) ∷ os) ((k, x) ∷ os) ((k, v) ∷ put os name x)))
        greater (sorted-put name x ((k, v) ∷ os) few.ordered));
    alone = λ e. cc;
  }

  pub other-few : (others : List (Text × X)) → same_text k name ≡ false → others ≡ without os name
      → IsFew (Some (k, v)) others
  other-few others h is = record {
    ordered = subst (λ es. AreInOrder es)
        (sym (ap (λ es. (k, v) ∷ es) is ∙ other-left k v os name h))
        (sorted-remove (is_at (text_cmp name)) ((k, v) ∷ os) few.ordered);
    alone = λ e. cc;
  }

  pub first-few : (first : Option (Text × X)) (others : List (Text × X)) → ahead first others ≡ os
      → (first ≡ None → others ≡ []) → IsFew first others
  unfolding IsStrictlySortedBy
  first-few first others is none = record {
    ordered = subst (λ es. AreInOrder es) (sym is) few.ordered.1;
    alone = none;
  }
