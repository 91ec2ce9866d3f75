-- flights that are sorted, of which those that are the same as the one before are left out
use Rattle.std.proofs.Common.{◌≡◌, ◌↔◌, ℕ, ◌+◌, ◌<◌, List, [], ◌∷◌, length, Bool, true, false, cond, refl, sym, ap, ◌∙◌, arith, subst, Some}
use Rattle.std.specs.declared.cmp.Ordering.{Ordering}
use Rattle.std.specs.declared.cmp.Ordering.TheVariants.{Less, Equal, Greater}
use Rattle.std.specs.Cmp.{IsTotalOrder, IsStrictWeakOrder}
use Rattle.std.specs.List.{Contains, dedup, dedup_from}
use Rattle.std.specs.List.Sorted.{IsSortedBy, IsStrictlySortedBy, IsPermutation}
use Rattle.std.specs.Ordering.{is_eq, is_lt, nat_cmp, eq_by_cmp, ordering_then}
use Rattle.std.proofs.lemmas.Bool.{and_parts, eqb-true}
use Rattle.std.proofs.lemmas.Cmp.{nat_cmp_total, nat_list_cmp_total, on_total, then_total, tied_itself}
use Rattle.std.proofs.lemmas.List.{get_or-map, length-map}
use Rattle.std.proofs.lemmas.List.Elements.{All-from_recursion, recursion_from_All}
use Rattle.std.proofs.lemmas.List.Filters.{All-dedup}
use Rattle.std.proofs.lemmas.List.Kept.{Contains-dedup, Contains-from_dedup, IsStrictlySortedBy-dedup}
use Rattle.std.proofs.lemmas.List.Sorted.{ranks_by, All-permutation, Contains-permutation, IsPermutation-map, IsPermutation-sym}
use Rattle.casa_flight.specs.declared.comp.Comp.{Comp}
use Rattle.casa_flight.specs.contracts.comp.CompOrd.TheImpl.{ghosts as sequence}
use Rattle.casa_flight.specs.contracts.comp.CompEq.TheImpl.Laws.{laws-law as comp_laws}
use Rattle.casa_flight.specs.contracts.comp.CompPartialEq.TheImpl.{ghosts as comps}
use Rattle.casa_flight.specs.declared.row.Row.{Row}
use Rattle.casa_filing.specs.Text.{Text, at_name}
use Rattle.casa_filing.proofs.Entries.{text_cmp, same_name, named}
use Rattle.casa_table.specs.declared.asking.FlightOver.{FlightOver}
use Rattle.casa_table.specs.Asking.{HaveRows, comps_of}

abbrev pub comes_before : FlightOver → FlightOver → Bool
comes_before a b = is_lt (sequence.cmp a.comp b.comp)

abbrev pub is_same : FlightOver → FlightOver → Bool
is_same a b = comps.eq a.comp b.comp

-- the order of flights
total : IsTotalOrder sequence.cmp
total = then_total (on_total (λ (c : Comp). c.eto) nat_cmp_total) (on_total (λ (c : Comp). c.key) nat_list_cmp_total)

pub flights_order : IsStrictWeakOrder comes_before
flights_order = ranks_by total (λ (f : FlightOver). f.comp)

-- flights that tie are the same
both : (a b : Comp) → a.eto ≡ b.eto → a.key ≡ b.key → a ≡ b
both a b times keys = λ i. record { eto = times i; key = keys i }

same_comp : (a b : Comp) → comps.eq a b ≡ true → a ≡ b
same_comp a b h = let k = and_parts _ _ h in both a b (eqb-true a.eto b.eto k.0) (named a.key b.key k.1)

tied_comp : (a b : Comp) → eq_by_cmp sequence.cmp a b ≡ true → a ≡ b
tied_comp a b h = by (nat_cmp a.eto b.eto) refl h
  where
    same_number : (m n : ℕ) → nat_cmp m n ≡ Equal → m ≡ n
    same_number m n t = grind (arith, t)

    by : (o : Ordering) → nat_cmp a.eto b.eto ≡ o → is_eq (ordering_then o (text_cmp a.key b.key)) ≡ true → a ≡ b
    by Less t g = cc
    by Greater t g = cc
    by Equal t g = both a b (same_number a.eto b.eto t) (same_name a.key b.key g)

alike : (a b : Bool) → (a ≡ true → b ≡ true) → (b ≡ true → a ≡ true) → a ≡ b
alike true b f g = sym (f refl)
alike false true f g = g refl
alike false false f g = refl

ties : (a b : Comp) → comps.eq a b ≡ eq_by_cmp sequence.cmp a b
ties a b =
    alike (comps.eq a b) (eq_by_cmp sequence.cmp a b)
    (λ h. subst (λ (d : Comp). eq_by_cmp sequence.cmp a d ≡ true) (same_comp a b h) (ap is_eq (tied_itself total a)))
    (λ h. subst (λ (d : Comp). comps.eq a d ≡ true) (tied_comp a b h) (comp_laws.refl a))

-- times over and keys of what is sorted, and of what is left
sorted_comps : (fs : List FlightOver) → IsSortedBy comes_before fs
    → IsSortedBy (λ (a b : Comp). is_lt (sequence.cmp a b)) (comps_of fs)
sorted_comps [] up = λ k d from lt. absurd (omega arith)
sorted_comps (f ∷ fs) up =
    let size : length (comps_of (f ∷ fs)) ≡ length (f ∷ fs) = length-map (f ∷ fs) (λ (g : FlightOver). g.comp) in
    λ k d from lt.
    let later : k + 1 < length (f ∷ fs) = omega (arith, size, lt) in
    let here : k < length (f ∷ fs) = omega (arith, later) in
    (λ i. is_lt (sequence.cmp (get_or-map (λ (g : FlightOver). g.comp) (f ∷ fs) (k + 1) f d later i)
    (get_or-map (λ (g : FlightOver). g.comp) (f ∷ fs) k f d here i)))
    ∙ up k f from later

comps-from : (f : FlightOver) (fs : List FlightOver)
    → comps_of (dedup_from is_same f fs) ≡ dedup_from comps.eq f.comp (comps_of fs)
comps-from f [] = refl
comps-from f (g ∷ fs) =
    elim (is_same g f) as (λ b. comps_of (cond b (dedup_from is_same f fs) (f ∷ dedup_from is_same g fs))
    ≡ cond b (dedup_from comps.eq f.comp (comps_of fs)) (f.comp ∷ dedup_from comps.eq g.comp (comps_of fs))) [
      | true ↦ comps-from f fs
      | false ↦ ap (λ (cs : List Comp). f.comp ∷ cs) (comps-from g fs)
    ]

comps-dedup : (fs : List FlightOver) → comps_of (dedup is_same fs) ≡ dedup comps.eq (comps_of fs)
comps-dedup [] = refl
comps-dedup (f ∷ fs) = comps-from f fs

-- so each is there once, in its order, with its row
module _ (before sorted now : List FlightOver) (moved : IsPermutation before sorted) (left : now ≡ dedup is_same sorted) where
  comps_are : comps_of now ≡ dedup comps.eq (comps_of sorted)
  comps_are = ap comps_of left ∙ comps-dedup sorted

  pub once_ordered : IsSortedBy comes_before sorted → IsStrictlySortedBy sequence.cmp (comps_of now)
  once_ordered up =
      subst (IsStrictlySortedBy sequence.cmp) (sym comps_are)
      (IsStrictlySortedBy-dedup total ties (comps_of sorted) (sorted_comps sorted up))

  pub once_there : (c : Comp) → Contains (comps_of now) c ↔ Contains (comps_of before) c
  once_there c =
      let moves : IsPermutation (comps_of before) (comps_of sorted) =
      IsPermutation-map (λ (f : FlightOver). f.comp) before sorted moved in (
        λ h. Contains-permutation (comps_of sorted) (comps_of before) c (IsPermutation-sym _ _ moves)
            (Contains-from_dedup comps.eq (comps_of sorted) c (subst (λ (cs : List Comp). Contains cs c) comps_are h)),
        λ h. subst (λ (cs : List Comp). Contains cs c) (sym comps_are)
            (Contains-dedup comp_laws same_comp (comps_of sorted) c (Contains-permutation (comps_of before) (comps_of sorted) c moves h)),
      )

  pub once_rows : (rows : List (Text × Row)) → HaveRows rows before → HaveRows rows now
  once_rows rows h =
      let HasRow : FlightOver → Type 0 = λ f. at_name rows f.comp.key ≡ Some f.row.now in
      subst (HaveRows rows) (sym left)
      (recursion_from_All HasRow (dedup is_same sorted)
      (All-dedup is_same HasRow sorted (All-permutation HasRow before sorted moved (All-from_recursion HasRow before h))))
