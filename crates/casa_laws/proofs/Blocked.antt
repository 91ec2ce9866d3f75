-- an issued flight blocks exactly the slot that it had
use Rattle.std.proofs.Common.{◌≡◌, ℕ, ◌<◌, ◌≤◌, List, length, Bool, true, false, ◌||◌, ◌==◌, nat_lt, nat_le, min, max, refl, sym, ◌∙◌, ap, arith, inl, inr, Option, None, Some}
use Rattle.std.specs.Option.{option_map_or}
use Rattle.std.specs.List.{slice_get, slice_index_or, list_any, position_or_len}
use Rattle.std.proofs.lemmas.Bool.{cases_order, and_parts, and_from, leb-true, ltb-true, lt-ltb, le-leb, eq-eqb, ne_eqb, false_from_ne_true}
use Rattle.std.proofs.lemmas.List.Sums.{passes_at_first}
use Rattle.std.proofs.lemmas.Option.{slice_get-get_or}
use Rattle.casa_grid.specs.declared.period.Period.{Period}
use Rattle.casa_grid.specs.declared.slot.Window.{Window}
use Rattle.casa_grid.specs.declared.slot.Place.{Place}
use Rattle.casa_grid.specs.declared.slot.Place.TheVariants.{Slot, Over}
use Rattle.casa_grid.specs.Profile.{IsProfile, start_of, end_of}
use Rattle.casa_grid.specs.Slots.{slots, wanted, is_within}
use Rattle.casa_grid.specs.TimeOver.{cto}
use Rattle.casa_grid.proofs.Slots.{slots-apart}
use Rattle.casa_grid.proofs.Windows.{AreApart, apart_at, apart_order, untils_rise}
use Rattle.casa_flight.specs.declared.comp.Assigned.{Assigned}
use Rattle.casa_flight.specs.Assignment.{Occupancy, is_from, IsServed}
use Rattle.casa_laws.proofs.Rising.{from_parts}
use Rattle.casa_laws.proofs.Issue.{BlocksToo, open_parts}

-- whether one of these times lies in a window
abbrev holds : List ℕ → Window → Bool
holds times w = list_any (λ s. is_within s w) times

-- the second times are the first and this one
abbrev pub AddsTime : List ℕ → List ℕ → ℕ → Type 0
AddsTime before after t = (w : Window) → holds after w ≡ (holds before w || is_within t w)

abbrev pub occupied : List Period → List ℕ → Occupancy
occupied ps times = record { slots = slots ps; issued = times }

within_parts : (t : ℕ) (w : Window) → is_within t w ≡ true → (w.begin ≤ t) × (t < w.until)
within_parts t w h = let parts = and_parts (nat_le w.begin t) (nat_lt t w.until) h in (leb-true _ _ parts.0, ltb-true _ _ parts.1)

-- a moment within window k is within no other
within_once : (start end t j k : ℕ) (ws : List Window) (v w : Window) → AreApart start end ws → slice_get ws j ≡ Some v → slice_get ws k ≡ Some w → is_within t w ≡ true → is_within t v ≡ (j == k)
within_once start end t j k ws v w apart first second held =
    let here = within_parts t w held in
    elim (cases_order j k) [
      | inl same ↦
          let both : Some v ≡ Some w = sym first ∙ ap (slice_get ws) same ∙ second in
          let windows : v ≡ w = cc in
          ap (is_within t) windows ∙ held ∙ sym (eq-eqb j k same)
      | inr (inl lt) ↦
          let order : v.until ≤ w.begin = apart_order start end ws j k v w apart lt first second in
          false_from_ne_true _ (λ h. let there = within_parts t v h in omega (arith, order, here.0, there.1)) ∙ sym (ne_eqb j k (λ same. omega (arith, same, lt)))
      | inr (inr gt) ↦
          let order : w.until ≤ v.begin = apart_order start end ws k j w v apart gt second first in
          false_from_ne_true _ (λ h. let there = within_parts t v h in omega (arith, order, here.1, there.0)) ∙ sym (ne_eqb j k (λ same. omega (arith, same, gt)))
    ]

-- a slot from the asked one on ends after the time over
asked_until : (start end eto k : ℕ) (ws : List Window) (w : Window) → AreApart start end ws → is_from (wanted ws eto) k ≡ true → k < length ws → slice_get ws k ≡ Some w → eto < w.until
asked_until start end eto k ws w apart asked under is =
    let n : ℕ = position_or_len (λ (v : Window). nat_lt eto v.until) ws in
    let parts : (n < length ws) × (n ≤ k) = from_parts n (length ws) k asked in
    let first : eto < (slice_index_or ws n w).until = ltb-true _ _ (passes_at_first (λ (v : Window). nat_lt eto v.until) ws w parts.0) in
    let rise : (slice_index_or ws n w).until ≤ (slice_index_or ws k w).until = untils_rise start end ws apart n k w parts.1 under in
    let both : Some (slice_index_or ws k w) ≡ Some w = sym (slice_get-get_or ws k w under) ∙ is in
    let same : slice_index_or ws k w ≡ w = cc in
    let until : (slice_index_or ws k w).until ≡ w.until = ap (λ (v : Window). v.until) same in
    omega (arith, first, rise, until)

-- the calculated time over in a slot lies within its window
cto_within : (ps : List Period) (eto k : ℕ) (w : Window) → IsProfile ps → is_from (wanted (slots ps) eto) k ≡ true → k < length (slots ps) → slice_get (slots ps) k ≡ Some w → is_within (cto (slots ps) (end_of ps) eto (Slot k)) w ≡ true
cto_within ps eto k w valid asked under is =
    let apart = slots-apart ps valid in
    let at = apart_at (start_of ps) (end_of ps) (slots ps) k w apart is in
    let before : eto < w.until = asked_until (start_of ps) (end_of ps) eto k (slots ps) w apart asked under is in
    let from : w.begin ≤ max eto (min (end_of ps) w.begin) = omega (arith, at.1, at.2) in
    let to : max eto (min (end_of ps) w.begin) < w.until = omega (arith, before, at.1, at.2) in
    ap (λ o. is_within (max eto (min (end_of ps) (option_map_or (λ (v : Window). v.begin) o 0))) w) is ∙ and_from _ _ (le-leb _ _ from) (lt-ltb _ _ to)

none_some : (w : Window) → None ≡ Some w → ⊥
none_some w h = cc

-- issued at its time over, a competitor blocks its own slot
slot_blocked : (ps : List Period) (t j k : ℕ) (before after : List ℕ) (w : Window) → IsProfile ps → slice_get (slots ps) k ≡ Some w → is_within t w ≡ true → AddsTime before after t → (at : Option Window) → slice_get (slots ps) j ≡ at
    → option_map_or (holds after) at false ≡ (option_map_or (holds before) at false || (j == k))
slot_blocked ps t j k before after w valid is held adds None at = sym (ne_eqb j k (λ same. none_some w (sym at ∙ ap (slice_get (slots ps)) same ∙ is)))
slot_blocked ps t j k before after w valid is held adds (Some v) at =
    adds v ∙ ap (λ b. holds before v || b) (within_once (start_of ps) (end_of ps) t j k (slots ps) v w (slots-apart ps valid) at is held)

no_more : (b c : Bool) → c ≡ false → (b || c) ≡ (b || false)
no_more b c h = ap (λ x. b || x) h

-- the end of the profile lies in no window
ends_outside : (ps : List Period) (k : ℕ) (w : Window) → IsProfile ps → slice_get (slots ps) k ≡ Some w → is_within (end_of ps) w ≡ false
ends_outside ps k w valid is =
    let at = apart_at (start_of ps) (end_of ps) (slots ps) k w (slots-apart ps valid) is in
    false_from_ne_true _ (λ h. let inside = within_parts (end_of ps) w h in omega (arith, inside.1, at.2))

-- issued at the end of the profile, one that is over blocks no slot
none_blocked : (ps : List Period) (j : ℕ) (before after : List ℕ) → IsProfile ps → AddsTime before after (end_of ps) → (at : Option Window) → slice_get (slots ps) j ≡ at
    → option_map_or (holds after) at false ≡ (option_map_or (holds before) at false || false)
none_blocked ps j before after valid adds None at = refl
none_blocked ps j before after valid adds (Some v) at = adds v ∙ no_more (holds before v) _ (ends_outside ps j v valid at)

-- issued at the calculated time over of its place, a competitor blocks this place and no other
pub blocks_place : (ps : List Period) (earlier : List Assigned) (eto : ℕ) (p : Place) (before after : List ℕ) → IsProfile ps → IsServed (occupied ps before) earlier eto p → AddsTime before after (cto (slots ps) (end_of ps) eto p) → BlocksToo (occupied ps before) (occupied ps after) p
blocks_place ps earlier eto (Slot k) before after valid served adds =
    let parts = open_parts (occupied ps before) eto k served.0 in
    let under : k < length (slots ps) = ltb-true _ _ parts.0 in
    let w : Window = slice_index_or (slots ps) k (record { begin = 0; until = 0 }) in
    let is : slice_get (slots ps) k ≡ Some w = slice_get-get_or (slots ps) k (record { begin = 0; until = 0 }) under in
    let held : is_within (cto (slots ps) (end_of ps) eto (Slot k)) w ≡ true = cto_within ps eto k w valid parts.1 under is in
    record {
      slots = refl;
      blocked = λ j. slot_blocked ps (cto (slots ps) (end_of ps) eto (Slot k)) j k before after w valid is held adds (slice_get (slots ps) j) refl;
    }
blocks_place ps earlier eto Over before after valid served adds = record {
  slots = refl;
  blocked = λ j. none_blocked ps j before after valid adds (slice_get (slots ps) j) refl;
}
