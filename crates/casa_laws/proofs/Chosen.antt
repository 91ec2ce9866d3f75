-- the choice is the most penalising of the offers, and the offers are those of the regulations to which the plan is subject
use Rattle.std.proofs.Common.{◌≡◌, ◌↔◌, ℕ, ◌<◌, ◌≤◌, List, [], ◌∷◌, true, false, cond, refl, sym, ap, subst, ◌∙◌, ◌⊎◌, inl, inr, Option, None, Some, is_some, nat_lt, arith}
use Rattle.std.specs.declared.cmp.Ordering.TheVariants.{Less}
use Rattle.std.specs.Option.{option_map_or}
use Rattle.std.specs.List.{All, AllByRecursion, Contains, best_of, filter_map}
use Rattle.std.proofs.lemmas.Bool.{ltb-true, ltb-false}
use Rattle.std.proofs.lemmas.Cmp.{nat_list_cmp_total}
use Rattle.std.proofs.lemmas.List.Elements.{All-contains, All-from_recursion}
use Rattle.casa_filing.specs.declared.regulation.Measure.{Measure}
use Rattle.casa_flight.specs.declared.state.State.{State}
use Rattle.casa_filing.specs.Text.{Text}
use Rattle.casa_filing.specs.FlightPlan.{FlightPlan}
use Rattle.casa_filing.specs.Subject.{regulation, subject}
use Rattle.casa_flight.specs.State.{measure_of}
use Rattle.casa_flight.specs.Listing.{Listing, listing}
use Rattle.casa_flight.specs.Entry.{Offer, offer_in, offer, offers, most_penalising, choice, situation}
use Rattle.casa_flight.specs.Good.{AreInOrder}
use Rattle.casa_filing.proofs.Entries.{text_cmp, filter_map-map}
use Rattle.casa_laws.proofs.Choice.{offer-is, most_among, most_none}
use Rattle.casa_flight.proofs.PutBy.{PairsByRecursion, each_itself}
use Rattle.casa_laws.proofs.InOrder.{HasName, names_rise, contains-kept}

abbrev best : Offer → List Offer → Offer
best o os = best_of (λ (x best : Offer). nat_lt best.delay x.delay) o os

-- none of these delays more than the best
most_delayed : (x : Offer) (xs : List Offer) → AllByRecursion (λ (o : Offer). o.delay ≤ (best x xs).delay) (x ∷ xs)
most_delayed x [] = (omega arith, tt)
most_delayed x (y ∷ ys) =
    elim (nat_lt x.delay y.delay) as (λ b. nat_lt x.delay y.delay ≡ b → AllByRecursion (λ (o : Offer). o.delay ≤ (best (cond b y x) ys).delay) (x ∷ y ∷ ys)) [
      | true ↦ λ t.
          let less : x.delay < y.delay = ltb-true _ _ t in
          let h = most_delayed y ys in
          let here : y.delay ≤ (best y ys).delay = h.0 in
          (omega (arith, less, here), h)
      | false ↦ λ t.
          let le : y.delay ≤ x.delay = ltb-false _ _ t in
          let h = most_delayed x ys in
          let here : x.delay ≤ (best x ys).delay = h.0 in
          (here, (omega (arith, le, here), h.1))
    ] refl

-- and of those that delay as much it is the first
abbrev IsFirst : Offer → Offer → Type 0
IsFirst best o = o.delay ≡ best.delay → (best ≡ o) ⊎ (text_cmp best.id o.id ≡ Less)

first_tied : (x : Offer) (xs : List Offer) → PairsByRecursion (λ (a b : Offer). text_cmp a.id b.id ≡ Less) (x ∷ xs) → AllByRecursion (IsFirst (best x xs)) (x ∷ xs)
first_tied x [] h = (λ same. inl refl, tt)
first_tied x (y ∷ ys) h =
    elim (nat_lt x.delay y.delay) as (λ b. nat_lt x.delay y.delay ≡ b → AllByRecursion (IsFirst (best (cond b y x) ys)) (x ∷ y ∷ ys)) [
      | true ↦ λ t.
          let less : x.delay < y.delay = ltb-true _ _ t in
          let here : y.delay ≤ (best y ys).delay = (most_delayed y ys).0 in
          (λ same. absurd (let as_much : x.delay ≡ (best y ys).delay = same in omega (arith, less, here, as_much)), first_tied y ys h.1)
      | false ↦ λ t.
          let le : y.delay ≤ x.delay = ltb-false _ _ t in
          let here : x.delay ≤ (best x ys).delay = (most_delayed x ys).0 in
          let rest = first_tied x ys (h.0.1, h.1.1) in
          let second : IsFirst (best x ys) y = λ same.
          let as_much : y.delay ≡ (best x ys).delay = same in
          elim (rest.0 (omega (arith, le, here, as_much))) [
            | inl is ↦ inr (subst (λ (o : Offer). text_cmp o.id y.id ≡ Less) (sym is) h.0.0)
            | inr first ↦ inr (nat_list_cmp_total.trans (best x ys).id x.id y.id first h.0.0)
          ] in
          (rest.0, (second, rest.1))
    ] refl

pub choice_among : (m : State) (key : Text) (plan : FlightPlan) (best : Offer) → choice (situation m) key plan ≡ Some best → Contains (offers (situation m) key plan) best
choice_among m key plan best chosen =
    let os : List Offer = offers (situation m) key plan in
    most_among (Contains os) os best (each_itself os) chosen

most_greatest : (os : List Offer) (o : Offer) → most_penalising os ≡ Some o → AllByRecursion (λ (x : Offer). x.delay ≤ o.delay) os
most_greatest [] o h = cc
most_greatest (x ∷ xs) o h =
    let here : best x xs ≡ o = cc in
    subst (λ (y : Offer). AllByRecursion (λ (z : Offer). z.delay ≤ y.delay) (x ∷ xs)) here (most_delayed x xs)

pub choice_greatest : (m : State) (key : Text) (plan : FlightPlan) (best : Offer) → choice (situation m) key plan ≡ Some best → All (λ (o : Offer). o.delay ≤ best.delay) (offers (situation m) key plan)
choice_greatest m key plan best chosen =
    let os : List Offer = offers (situation m) key plan in
    All-from_recursion (λ (o : Offer). o.delay ≤ best.delay) os (most_greatest os best chosen)

-- an offer has its regulation's identifier
offer_id : (id key : Text) (l : Option Listing) (eto : Option ℕ) (o : Offer) → offer_in id key l eto ≡ Some o → o.id ≡ id
offer_id id key (Some l) (Some eto) o h = sym (ap (λ (w : Option Offer). option_map_or (λ (x : Offer). x.id) w id) h)
offer_id id key (Some l) None o h = cc
offer_id id key None eto o h = cc

abbrev offered : State → Text → FlightPlan → Text × Measure → Option Offer
offered m key plan e = offer (situation m) key plan (regulation e.0 e.1)

offered_id : (m : State) (key : Text) (plan : FlightPlan) → HasName (λ (o : Offer). o.id) (offered m key plan)
offered_id m key plan e o h = offer_id e.0 key ((situation m).lists e.0) (subject plan (regulation e.0 e.1)) o h

offers_are : (m : State) (key : Text) (plan : FlightPlan) → offers (situation m) key plan ≡ filter_map (offered m key plan) m.regs
offers_are m key plan = filter_map-map (offer (situation m) key plan) (λ (e : Text × Measure). regulation e.0 e.1) m.regs

most_first : (os : List Offer) (o : Offer) → PairsByRecursion (λ (a b : Offer). text_cmp a.id b.id ≡ Less) os → most_penalising os ≡ Some o → AllByRecursion (IsFirst o) os
most_first [] o rise h = cc
most_first (x ∷ xs) o rise h =
    let here : best x xs ≡ o = cc in
    subst (λ (y : Offer). AllByRecursion (IsFirst y) (x ∷ xs)) here (first_tied x xs rise)

pub choice_ties : (m : State) (key : Text) (plan : FlightPlan) (best o : Offer) → AreInOrder m.regs → choice (situation m) key plan ≡ Some best → Contains (offers (situation m) key plan) o → o.delay ≡ best.delay → (best ≡ o) ⊎ (text_cmp best.id o.id ≡ Less)
choice_ties m key plan best o sorted chosen there =
    let os : List Offer = offers (situation m) key plan in
    let rise : PairsByRecursion (λ (a b : Offer). text_cmp a.id b.id ≡ Less) os =
    subst (PairsByRecursion (λ (a b : Offer). text_cmp a.id b.id ≡ Less)) (sym (offers_are m key plan)) (names_rise (λ (o : Offer). o.id) (offered m key plan) (offered_id m key plan) m.regs sorted) in
    All-contains (IsFirst best) os o (All-from_recursion (IsFirst best) os (most_first os best rise chosen)) there

pub choice_none : (m : State) (key : Text) (plan : FlightPlan) → choice (situation m) key plan ≡ None ↔ offers (situation m) key plan ≡ []
choice_none m key plan = (most_none (offers (situation m) key plan), λ h. ap most_penalising h)

-- an offer is there exactly where its regulation is open and offers it
pub offers_open : (m : State) (key : Text) (plan : FlightPlan) (o : Offer) → AreInOrder m.regs
    → Contains (offers (situation m) key plan) o ↔ (measure : Measure) × (measure_of m o.id ≡ Some measure) × (offer (situation m) key plan (regulation o.id measure) ≡ Some o)
offers_open m key plan o sorted =
    let kept = contains-kept (λ (x : Offer). x.id) (offered m key plan) (offered_id m key plan) m.regs sorted o in (
      λ h. kept.0 (subst (λ (os : List Offer). Contains os o) (offers_are m key plan) h),
      λ k. subst (λ (os : List Offer). Contains os o) (sym (offers_are m key plan)) (kept.1 k),
    )

made : (id key : Text) (l : Listing) (eto : Option ℕ) → is_some (offer_in id key (Some l) eto) ≡ is_some eto
made id key l None = refl
made id key l (Some eto) = refl

-- and an open regulation makes one exactly where the plan is subject to it
pub offers_subject : (m : State) (key id : Text) (plan : FlightPlan) (measure : Measure) → measure_of m id ≡ Some measure → is_some (offer (situation m) key plan (regulation id measure)) ≡ is_some (subject plan (regulation id measure))
offers_subject m key id plan measure opened =
    ap is_some (offer-is m key plan id measure opened) ∙ made id key (listing m.rows id measure) (subject plan (regulation id measure))
