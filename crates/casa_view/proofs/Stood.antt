-- the versions that come, with those of the lists in which a flight is to stand so
use Rattle.std.proofs.Common.{◌≡◌, ℕ, List, [], ◌∷◌, ◌++◌, Bool, true, false, cond, refl, sym, ap, ◌∙◌, subst, Option, None, Some}
use Rattle.std.specs.Prelude.{Result, Ok, Err}
use Rattle.std.specs.declared.alloc.AllocError.{AllocError}
use Rattle.std.specs.Option.{option_map, option_and_then, option_or}
use Rattle.std.specs.declared.cmp.Ordering.{Ordering}
use Rattle.std.specs.declared.cmp.Ordering.TheVariants.{Less}
use Rattle.std.specs.Ordering.{is_eq, ordering_reverse}
use Rattle.std.specs.List.Sorted.{IsStrictlySortedBy}
use Rattle.std.proofs.lemmas.Cmp.{nat_list_cmp_total}
use Rattle.casa_filing.specs.Text.{Text, at_name, put}
use Rattle.casa_flight.specs.Listing.{Listing}
use Rattle.casa_flight.specs.Good.{AreInOrder}
use Rattle.casa_filing.proofs.Entries.{text_cmp, same_name, at-put}
use Rattle.casa_plan_spec.specs.Sight.{Stand, Written, with_flight}
use Rattle.casa_item.specs.declared.item.Item.{Item}
use Rattle.casa_table.proofs.Layers.{all-mid}
use Rattle.casa_item.specs.Versions.{list_of}
use Rattle.casa_item.specs.Stood.{AreStood, DoneOr}
use Rattle.casa_view.specs.Next.{NextList, NextStand, TurnsTo, listed, list_among}
use Rattle.casa_view.proofs.Turned.{Alike}

at-behind : {X : Type 0} (es : List (Text × X)) (k : Text) (x : X) (q : Text)
    → at_name (es ++ (k, x) ∷ []) q ≡ option_or (at_name es q) (cond (is_eq (text_cmp q k)) (Some x) None)
at-behind [] k x q = refl
at-behind {X} (e ∷ es) k x q =
    elim (is_eq (text_cmp q e.0)) as (λ b. cond b (Some e.1) (at_name (es ++ (k, x) ∷ []) q)
    ≡ option_or (cond b (Some e.1) (at_name es q)) (cond (is_eq (text_cmp q k)) (Some x) None)) [
      | true ↦ refl
      | false ↦ at-behind es k x q
    ]

-- a name is none of those before it
at-front : {X : Type 0} (es : List (Text × X)) (k : Text) (x : X) (rest : List (Text × X)) → AreInOrder (es ++ (k, x) ∷ rest) → at_name es k ≡ None
unfolding IsStrictlySortedBy
at-front [] k x rest order = refl
at-front {X} (e ∷ es) k x rest order =
    let before : text_cmp e.0 k ≡ Less = all-mid (λ t. text_cmp e.0 t ≡ Less) es k x rest order.0 in
    ap (λ (r : Ordering). cond (is_eq r) (Some e.1) (at_name es k)) (nat_list_cmp_total.antisymm k e.0 ∙ ap ordering_reverse before)
    ∙ at-front es k x rest order.1

module _ {V : Type 0} (item_of : V → Item) (stamp_of : V → ℕ) (n : ℕ) (lists : Text → Option Listing) where
  abbrev Next : Text → Option Stand → Option (Option V) → Option (Option V) → Type 0
  Next = NextStand item_of stamp_of n lists

  -- one more list is put behind the others
  pub stood_next : (done : List (Text × Stand)) (was now : List (Text × Option V)) (k : Text) (s : Stand) (w : Option V) (rest : List (Text × Stand))
      → AreInOrder (done ++ (k, s) ∷ rest) → NextList item_of stamp_of n (option_map (λ (l : Listing). with_flight l s.0 s.1) (lists k)) w
      → ((q : Text) → Next q (at_name done q) (at_name was q) (at_name now q))
      → (q : Text) → Next q (at_name (done ++ (k, s) ∷ []) q) (at_name was q) (at_name (put now k w) q)
  stood_next done was now k s w rest order here before q =
      subst (λ (o : Option Stand). Next q o (at_name was q) (at_name (put now k w) q)) (sym (at-behind done k s q))
      (subst (λ (p : Option (Option V)). Next q (option_or (at_name done q) (cond (is_eq (text_cmp q k)) (Some s) None)) (at_name was q) p) (sym (at-put q k w now))
      (by (is_eq (text_cmp q k)) refl))
    where
      by : (b : Bool) → is_eq (text_cmp q k) ≡ b
          → Next q (option_or (at_name done q) (cond b (Some s) None)) (at_name was q) (cond b (Some w) (at_name now q))
      by false t = subst (λ (o : Option Stand). Next q o (at_name was q) (at_name now q)) (sym (right (at_name done q))) (before q)
        where
          right : (o : Option Stand) → option_or o None ≡ o
          right None = refl
          right (Some x) = refl
      by true t =
          subst (λ (o : Option Stand). Next q (option_or o (Some s)) (at_name was q) (Some w))
          (sym (subst (λ (p : Text). at_name done p ≡ None) (sym (same_name q k t)) (at-front done k s rest order)))
          (subst (λ (p : Text). NextList item_of stamp_of n (option_map (λ (l : Listing). with_flight l s.0 s.1) (lists p)) w) (sym (same_name q k t)) here)

  -- what a change has of a list comes
  pub listed_next : (d : Written) (was now : List (Text × Option V)) (q : Text) → Alike (NextList item_of stamp_of n) (at_name d.lists q) (at_name was q)
      → Next q (at_name d.stands q) (at_name was q) (at_name now q) → Alike (NextList item_of stamp_of n) (listed lists d q) (at_name now q)
  listed_next d was now q written stood = by (at_name d.stands q) (at_name now q) stood
    where
      by : (o : Option Stand) (p : Option (Option V)) → Next q o (at_name was q) p
          → Alike (NextList item_of stamp_of n) (option_or (option_map (λ (s : Stand). option_map (λ (l : Listing). with_flight l s.0 s.1) (lists q)) o) (at_name d.lists q)) p
      by None p same = subst (λ (p : Option (Option V)). Alike (NextList item_of stamp_of n) (at_name d.lists q) p) (sym same) written
      by (Some s) None h = absurd h
      by (Some s) (Some v) h = h

-- where lists are changed where they lie, and the change has no others, they turn to what it has
module _ {V : Type 0} (item_of : V → Item) (stamp_of : V → ℕ) (n : ℕ) where
  pub stood_listed : (d : Written) (before now : List (Text × V)) → d.lists ≡ [] → AreStood item_of stamp_of n d.stands before now
      → (q : Text) → TurnsTo item_of stamp_of n (listed (list_among item_of before) d q) (at_name before q) (at_name now q)
  stood_listed d before now none all q = by (at_name d.stands q) refl
    where
      by : (o : Option Stand) → at_name d.stands q ≡ o
          → TurnsTo item_of stamp_of n
          (option_or (option_map (λ (s : Stand). option_map (λ (l : Listing). with_flight l s.0 s.1) (list_among item_of before q)) o) (at_name d.lists q))
          (at_name before q) (at_name now q)
      by None e = subst (λ (ls : List (Text × Option Listing)). TurnsTo item_of stamp_of n (at_name ls q) (at_name before q) (at_name now q)) (sym none) (all.others q e)
      by (Some s) e =
          let at = all.stood q s e in
          let was : list_among item_of before q ≡ Some at.stood.item.list =
          ap (option_and_then (λ (v : V). list_of (item_of v))) at.was ∙ at.stood.item.was_list in
          subst (λ (w : Option V). TurnsTo item_of stamp_of n (Some (option_map (λ (l : Listing). with_flight l s.0 s.1) (list_among item_of before q))) (at_name before q) w)
          (sym at.is)
          (at.stood.item.now_list ∙ sym (ap (option_map (λ (l : Listing). with_flight l s.0 s.1)) was), at.stood.stamp)

-- what follows where it is done
pub done_weaker : {E : Type 0} (A B C : Type 0) (r : Result Bool E) → (A → B) → DoneOr r A C → DoneOr r B C
done_weaker A B C (Ok true) f h = f h
done_weaker A B C (Ok false) f h = h
done_weaker A B C (Err e) f h = h

-- where it is done, and where it is not
pub when_done : (A B : Type 0) (done : Bool) → done ≡ true → DoneOr {E = AllocError} (Ok done) A B → A
when_done A B true is h = h
when_done A B false is h = cc

pub unless_done : (A B : Type 0) (done : Bool) → done ≡ false → DoneOr {E = AllocError} (Ok done) A B → B
unless_done A B true is h = cc
unless_done A B false is h = h
