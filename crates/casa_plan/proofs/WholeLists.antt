-- a change with whole lists in place of how flights are to stand in them says the same
use Rattle.std.proofs.Common.{◌≡◌, List, [], ◌∷◌, Bool, true, false, cond, refl, sym, ap, subst, ◌∙◌, Option, None, Some}
use Rattle.std.specs.Ordering.{is_eq}
use Rattle.std.specs.Option.{option_map, option_and_then, option_or}
use Rattle.std.specs.List.Sorted.{IsStrictlySortedBy}
use Rattle.casa_filing.specs.Text.{Text, at_name, put}
use Rattle.casa_filing.proofs.Entries.{text_cmp, same_name, at-put}
use Rattle.casa_flight.specs.Good.{AreInOrder}
use Rattle.casa_flight.specs.Listing.{Listing}
use Rattle.casa_footprint.specs.Items.{the_clock, the_catalogue, a_row, a_list, list_or_none}
use Rattle.casa_laws.proofs.Kept.{at_above}
use Rattle.casa_plan_spec.specs.Sight.{Sight, Stand, Written, list_in, with_flight, says}
use Rattle.casa_plan.specs.WholeLists.{settled_in, SayTheSame, HasWholeLists}

-- a change with flights standing so in lists, one after the other
abbrev pub settled_each : Sight → Written → List (Text × Stand) → Written
settled_each v w [] = w
settled_each v w (e ∷ es) = settled_each v (settled_in (list_in v e.0) w e.0 e.1) es

-- a change that says nothing of how flights are to stand
abbrev pub unsaid : Written → Written
unsaid w = record w { stands = [] }

-- the whole list with the flight standing so, where there is a list; and how it is to stand, where there is none
abbrev whole_list : Option Listing → Stand → Option (Option Listing)
whole_list None s = None
whole_list (Some l) s = Some (Some (with_flight l s.0 s.1))

abbrev stand_left : Option Listing → Stand → Option Stand
stand_left None s = Some s
stand_left (Some l) s = None

-- what is found under a name once something is put under this one, or nothing
found_put : {X : Type 0} (b : Bool) (x : X) (was : Option X) → cond b (Some x) was ≡ option_or (cond b (Some x) None) was
found_put true x was = refl
found_put false x was = refl

found_same : {X : Type 0} (b : Bool) (was : Option X) → was ≡ option_or (cond b None None) was
found_same true was = refl
found_same false was = refl

list_put : (list : Option Listing) (w : Written) (id : Text) (s : Stand) (q : Text)
    → at_name (settled_in list w id s).lists q ≡ option_or (cond (is_eq (text_cmp q id)) (whole_list list s) None) (at_name w.lists q)
list_put None w id s q = found_same (is_eq (text_cmp q id)) (at_name w.lists q)
list_put (Some l) w id s q =
    let x : Option Listing = Some (with_flight l s.0 s.1) in
    at-put q id x w.lists ∙ found_put (is_eq (text_cmp q id)) x (at_name w.lists q)

stand_put : (list : Option Listing) (w : Written) (id : Text) (s : Stand) (q : Text)
    → at_name (settled_in list w id s).stands q ≡ option_or (cond (is_eq (text_cmp q id)) (stand_left list s) None) (at_name w.stands q)
stand_put None w id s q = at-put q id s w.stands ∙ found_put (is_eq (text_cmp q id)) s (at_name w.stands q)
stand_put (Some l) w id s q = found_same (is_eq (text_cmp q id)) (at_name w.stands q)

-- of entries of which each gives something or nothing, one more in front, whose name does not stand among the others
found_front : {S X : Type 0} (gives : Text → S → Option X) (e : Text × S) (es : List (Text × S)) (q : Text) (was : Option X) → at_name es e.0 ≡ None
    → option_or (option_and_then (gives q) (at_name es q)) (option_or (cond (is_eq (text_cmp q e.0)) (gives e.0 e.1) None) was)
    ≡ option_or (option_and_then (gives q) (at_name (e ∷ es) q)) was
found_front {S} {X} gives e es q was once =
    elim (is_eq (text_cmp q e.0)) as (λ b. is_eq (text_cmp q e.0) ≡ b
    → option_or (option_and_then (gives q) (at_name es q)) (option_or (cond b (gives e.0 e.1) None) was)
    ≡ option_or (option_and_then (gives q) (cond b (Some e.1) (at_name es q))) was) [
      | true ↦ λ t.
          subst (λ k. option_or (option_and_then (gives k) (at_name es k)) (option_or (gives e.0 e.1) was) ≡ option_or (gives k e.1) was) (sym (same_name q e.0 t))
          (ap (λ o. option_or (option_and_then (gives e.0) o) (option_or (gives e.0 e.1) was)) once)
      | false ↦ λ t. refl
    ] refl

module _ (v : Sight) where
  -- what a change has under a name once flights stand so in lists, by what each gives
  found_each : {X : Type 0} (part : Written → List (Text × X)) (gives : Option Listing → Stand → Option X)
      → ((list : Option Listing) (w : Written) (id : Text) (s : Stand) (q : Text) → at_name (part (settled_in list w id s)) q ≡ option_or (cond (is_eq (text_cmp q id)) (gives list s) None) (at_name (part w) q))
      → (w : Written) (es : List (Text × Stand)) (q : Text) → AreInOrder es
      → at_name (part (settled_each v w es)) q ≡ option_or (option_and_then (gives (list_in v q)) (at_name es q)) (at_name (part w) q)
  unfolding IsStrictlySortedBy
  found_each part gives one w [] q sorted = refl
  found_each part gives one w (e ∷ es) q sorted =
      found_each part gives one (settled_in (list_in v e.0) w e.0 e.1) es q sorted.1
      ∙ ap (option_or (option_and_then (gives (list_in v q)) (at_name es q))) (one (list_in v e.0) w e.0 e.1 q)
      ∙ found_front (λ (k : Text) (s : Stand). gives (list_in v k) s) e es q (at_name (part w) q) (at_above e.0 es sorted.0)

  -- what has nothing to do with lists is as it was
  same_elsewhere : {X : Type 0} (part : Written → X)
      → ((w : Written) (lists : List (Text × Option Listing)) (stands : List (Text × Stand)) → part (record w { lists = lists; stands = stands }) ≡ part w)
      → (w : Written) (es : List (Text × Stand)) → part (settled_each v w es) ≡ part w
  same_elsewhere part apart w [] = refl
  same_elsewhere part apart w (e ∷ es) = same_elsewhere part apart (settled_in (list_in v e.0) w e.0 e.1) es ∙ by (list_in v e.0)
    where
      by : (list : Option Listing) → part (settled_in list w e.0 e.1) ≡ part w
      by None = apart w w.lists (put w.stands e.0 e.1)
      by (Some l) = apart w (put w.lists e.0 (Some (with_flight l e.1.0 e.1.1))) w.stands

  -- a change with whole lists where the view shows them
  abbrev pub settled : Written → Written
  settled w = settled_each v (unsaid w) w.stands

  left : (w : Written) (q : Text) → AreInOrder w.stands → at_name (settled w).stands q ≡ option_or (option_and_then (stand_left (list_in v q)) (at_name w.stands q)) None
  left w q sorted = found_each (λ (w : Written). w.stands) stand_left stand_put (unsaid w) w.stands q sorted

  whole : (w : Written) (q : Text) → AreInOrder w.stands → at_name (settled w).lists q ≡ option_or (option_and_then (whole_list (list_in v q)) (at_name w.stands q)) (at_name w.lists q)
  whole w q sorted = found_each (λ (w : Written). w.lists) whole_list list_put (unsaid w) w.stands q sorted

  -- of a list that is shown it does not say how a flight is to stand there
  pub settled_whole : (w : Written) → AreInOrder w.stands → HasWholeLists v (settled w)
  settled_whole w sorted id l shown =
      left w id sorted ∙ ap (λ (list : Option Listing). option_or (option_and_then (stand_left list) (at_name w.stands id)) None) shown ∙ by (at_name w.stands id)
    where
      by : (o : Option Stand) → option_or (option_and_then (stand_left (Some l)) o) None ≡ None
      by None = refl
      by (Some s) = refl

  -- what is said of a list that stands as it is shown, if it is shown
  said_of_list : (shown there : Option Listing) (o : Option Stand) (was : Option (Option Listing)) → ((l : Listing) → shown ≡ Some l → there ≡ Some l)
      → option_or (option_map (λ (s : Stand). list_or_none (option_map (λ (l : Listing). with_flight l s.0 s.1) there)) (option_or (option_and_then (stand_left shown) o) None))
      (option_map list_or_none (option_or (option_and_then (whole_list shown) o) was))
      ≡ option_or (option_map (λ (s : Stand). list_or_none (option_map (λ (l : Listing). with_flight l s.0 s.1) there)) o) (option_map list_or_none was)
  said_of_list shown there None was as_shown = refl
  said_of_list None there (Some s) was as_shown = refl
  said_of_list (Some l) there (Some s) was as_shown =
      ap (λ (list : Option Listing). Some (list_or_none (option_map (λ (l : Listing). with_flight l s.0 s.1) list))) (sym (as_shown l refl))

  -- and of each item it says the same
  pub settled_same : (w : Written) → AreInOrder w.stands → SayTheSame v (settled w) w
  settled_same w sorted lists shown the_clock = same_elsewhere (λ (w : Written). says lists w the_clock) (λ w ls ss. refl) (unsaid w) w.stands
  settled_same w sorted lists shown the_catalogue = same_elsewhere (λ (w : Written). says lists w the_catalogue) (λ w ls ss. refl) (unsaid w) w.stands
  settled_same w sorted lists shown (a_row key) = same_elsewhere (λ (w : Written). says lists w (a_row key)) (λ w ls ss. refl) (unsaid w) w.stands
  settled_same w sorted lists shown (a_list id) =
      (λ i. option_or
      (option_map (λ (s : Stand). list_or_none (option_map (λ (l : Listing). with_flight l s.0 s.1) (lists id))) (left w id sorted i))
      (option_map list_or_none (whole w id sorted i)))
      ∙ said_of_list (list_in v id) (lists id) (at_name w.stands id) (at_name w.lists id) (shown id)
