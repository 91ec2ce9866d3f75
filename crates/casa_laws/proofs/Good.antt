-- a flight that enters is in good standing, and a state stays good where a flight enters, is exempted or is removed
use Rattle.std.proofs.Common.{◌≡◌, ℕ, ◌≤◌, List, Bool, true, false, cond, ◌||◌, refl, Option, None, Some, MatchOption}
use Rattle.std.specs.Option.{option_map_or}
use Rattle.std.specs.List.{AllByRecursion}
use Rattle.std.specs.List.Sorted.{IsStrictlySortedBy}
use Rattle.std.specs.Map.{keys_of}
use Rattle.std.specs.BTreeMap.{is_at}
use Rattle.std.specs.Ordering.{is_eq}
use Rattle.std.proofs.lemmas.Bool.{or_parts}
use Rattle.casa_grid.specs.Profile.{end_of}
use Rattle.casa_filing.specs.declared.regulation.Measure.{Measure}
use Rattle.casa_flight.specs.declared.row.Row.{Row}
use Rattle.casa_flight.specs.declared.state.State.{State}
use Rattle.casa_filing.specs.Text.{Text, without}
use Rattle.casa_filing.specs.Subject.{is_due, is_gone}
use Rattle.casa_flight.specs.State.{empty, row_of, with_row, is_exempt}
use Rattle.casa_flight.specs.Entry.{Offer, situation, choice, governed, row_after_entry, enter}
use Rattle.casa_flight.specs.Steps.{Step, after}
use Rattle.casa_flight.specs.Good.{IsOutside, IsGood, IsGoodRow, IsFree, IsGoverned}
use Rattle.casa_filing.proofs.Entries.{text_cmp, all-put-but, all-remove, all_at, all-each, sorted-put, sorted-remove}
use Rattle.casa_laws.proofs.Choice.{IsOfferOf, choice-offer, choice-none}
use Rattle.casa_laws.proofs.Outcomes.{exempted}

pub empty_good : IsGood empty
unfolding IsStrictlySortedBy
empty_good = record { rows_in_order = tt; regs_in_order = tt; rows = tt }

-- a flight that nothing governs is not issued and, unless it waits to enter, exempt, gone or subject to nothing
abbrev pub IsFreeBut : Bool → ℕ → List (Text × Measure) → Row → Type 0
IsFreeBut waits clock regs row =
    (row.issued ≡ None) × (waits ≡ false → is_exempt row ≡ false → is_gone clock row.plan ≡ false → IsOutside regs row.plan)

-- a good row, but that it may wait to enter
pub record IsRowBut (waits : Bool) (clock : ℕ) (regs : List (Text × Measure)) (key : Text) (row : Row) : Type 0 where
  pub keyed : row.plan.key ≡ key
  pub standing : MatchOption row.governing (IsFreeBut waits clock regs row) (IsGoverned clock regs row)

-- a good state, but that the rows under these keys may wait to enter
pub record IsGoodBut (waits : Text → Bool) (m : State) : Type 0 where
  pub rows_in_order : IsStrictlySortedBy text_cmp (keys_of m.rows)
  pub regs_in_order : IsStrictlySortedBy text_cmp (keys_of m.regs)
  pub rows : AllByRecursion (λ (e : Text × Row). IsRowBut (waits e.0) m.clock m.regs e.0 e.1) m.rows

abbrev pub none_waits : Text → Bool
none_waits q = false

-- a state is good exactly if none waits
standing_to : (clock : ℕ) (regs : List (Text × Measure)) (row : Row) (o : Option Text) → MatchOption o (IsFree clock regs row) (IsGoverned clock regs row) → MatchOption o (IsFreeBut false clock regs row) (IsGoverned clock regs row)
standing_to clock regs row None h = (h.not_issued, λ waits. h.left)
standing_to clock regs row (Some id) h = h

standing_from : (clock : ℕ) (regs : List (Text × Measure)) (row : Row) (o : Option Text) → MatchOption o (IsFreeBut false clock regs row) (IsGoverned clock regs row) → MatchOption o (IsFree clock regs row) (IsGoverned clock regs row)
standing_from clock regs row None h = record { not_issued = h.0; left = h.1 refl }
standing_from clock regs row (Some id) h = h

to_but : (m : State) → IsGood m → IsGoodBut none_waits m
to_but m h = record {
  rows_in_order = h.rows_in_order;
  regs_in_order = h.regs_in_order;
  rows = all-each (λ (e : Text × Row). IsGoodRow m.clock m.regs e.0 e.1) (λ (e : Text × Row). IsRowBut false m.clock m.regs e.0 e.1)
      (λ e r. record { keyed = r.keyed; standing = standing_to m.clock m.regs e.1 e.1.governing r.standing }) m.rows h.rows;
}

pub from_but : (m : State) → IsGoodBut none_waits m → IsGood m
from_but m h = record {
  rows_in_order = h.rows_in_order;
  regs_in_order = h.regs_in_order;
  rows = all-each (λ (e : Text × Row). IsRowBut false m.clock m.regs e.0 e.1) (λ (e : Text × Row). IsGoodRow m.clock m.regs e.0 e.1)
      (λ e r. record { keyed = r.keyed; standing = standing_from m.clock m.regs e.1 e.1.governing r.standing }) m.rows h.rows;
}

-- a row may wait where one that does not is good
looser : (clock : ℕ) (regs : List (Text × Measure)) (row : Row) (v w : Bool) → (w ≡ false → v ≡ false) → (o : Option Text) → MatchOption o (IsFreeBut v clock regs row) (IsGoverned clock regs row) → MatchOption o (IsFreeBut w clock regs row) (IsGoverned clock regs row)
looser clock regs row v w f None h = (h.0, λ e. h.1 (f e))
looser clock regs row v w f (Some id) h = h

pub row-looser : (clock : ℕ) (regs : List (Text × Measure)) (key : Text) (row : Row) (v w : Bool) → (w ≡ false → v ≡ false) → IsRowBut v clock regs key row → IsRowBut w clock regs key row
row-looser clock regs key row v w f h = record { keyed = h.keyed; standing = looser clock regs row v w f row.governing h.standing }

-- what waited and waits no more is under this key
abbrev pub IsLess : (Text → Bool) → Text → (Text → Bool) → Type 0
IsLess v key w = (q : Text) → is_eq (text_cmp key q) ≡ false → w q ≡ false → v q ≡ false

-- a row that is good and waits no more is put in
put-good : (v w : Text → Bool) (m : State) (key : Text) (row : Row) → IsLess v key w → IsGoodBut v m → IsRowBut false m.clock m.regs key row → IsGoodBut w (with_row m key row)
put-good v w m key row less good new = record {
  rows_in_order = sorted-put key row m.rows good.rows_in_order;
  regs_in_order = good.regs_in_order;
  rows = all-put-but (λ (e : Text × Row). IsRowBut (v e.0) m.clock m.regs e.0 e.1) (λ (e : Text × Row). IsRowBut (w e.0) m.clock m.regs e.0 e.1) key row
      (row-looser m.clock m.regs key row false (w key) (λ _. refl) new)
      (λ e apart r. row-looser m.clock m.regs e.0 e.1 (v e.0) (w e.0) (less e.0 apart) r) m.rows good.rows_in_order good.rows;
}

-- a flight that nothing governs
free_row : (clock : ℕ) (regs : List (Text × Measure)) (key : Text) (row : Row) → row.plan.key ≡ key → row.governing ≡ None → row.issued ≡ None
    → (is_exempt row ≡ false → is_gone clock row.plan ≡ false → IsOutside regs row.plan) → IsRowBut false clock regs key row
free_row clock regs key row keyed free not_issued left = record { keyed = keyed; standing = rw free (not_issued, λ _. left) }

-- a flight that is governed as offered is issued right
governed_row : (clock : ℕ) (regs : List (Text × Measure)) (key : Text) (row : Row) (o : Offer) → row.plan.key ≡ key → is_exempt row ≡ false → IsOfferOf regs row.plan o → IsRowBut false clock regs key (governed clock row o)
governed_row clock regs key row o keyed plain offered = record {
  keyed = keyed;
  standing = record {
    measure = offered.measure;
    is_open = offered.is_open;
    eto = offered.eto;
    is_subject = offered.is_subject;
    not_exempt = plain;
    issued = elim (is_due clock row.plan) as (λ b. is_due clock row.plan ≡ b → MatchOption (cond b (Some o.cto) None) (is_due clock row.plan ≡ false) (λ cto. (is_due clock row.plan ≡ true) × (offered.eto ≤ cto) × (cto ≤ end_of offered.measure.profile))) [
      | true ↦ λ due. (due, offered.from_eto, offered.to_end)
      | false ↦ λ due. due
    ] refl;
  };
}

-- a flight that may compete takes what is chosen
chosen_row : (m : State) (key : Text) (row : Row) (o : Option Offer) → IsStrictlySortedBy text_cmp (keys_of m.regs) → row.plan.key ≡ key → row.governing ≡ None → row.issued ≡ None → is_exempt row ≡ false
    → choice (situation m) key row.plan ≡ o → IsRowBut false m.clock m.regs key (option_map_or (governed m.clock row) o row)
chosen_row m key row None sorted keyed free not_issued plain chosen =
    free_row m.clock m.regs key row keyed free not_issued (λ _ _. choice-none m key row.plan sorted chosen)
chosen_row m key row (Some o) sorted keyed free not_issued plain chosen =
    governed_row m.clock m.regs key row o keyed plain (choice-offer m key row.plan o sorted chosen)

excused : (a b : Bool) → (a || b) ≡ true → a ≡ false → b ≡ false → ⊥
excused true b h p q = cc
excused false true h p q = cc
excused false false h p q = cc

-- an ungoverned flight that enters is a good row
entered_row : (m : State) (key : Text) (row : Row) → IsStrictlySortedBy text_cmp (keys_of m.regs) → row.plan.key ≡ key → row.governing ≡ None → row.issued ≡ None → IsRowBut false m.clock m.regs key (row_after_entry (situation m) key row)
entered_row m key row sorted keyed free not_issued =
    let chosen : Row = option_map_or (governed m.clock row) (choice (situation m) key row.plan) row in
    elim (is_exempt row || is_gone m.clock row.plan) as (λ b. (is_exempt row || is_gone m.clock row.plan) ≡ b → IsRowBut false m.clock m.regs key (cond b row chosen)) [
      | true ↦ λ t. free_row m.clock m.regs key row keyed free not_issued (λ p q. absurd (excused (is_exempt row) (is_gone m.clock row.plan) t p q))
      | false ↦ λ t. chosen_row m key row (choice (situation m) key row.plan) sorted keyed free not_issued (or_parts (is_exempt row) (is_gone m.clock row.plan) t).0 refl
    ] refl

pub enter-good : (v w : Text → Bool) (m : State) (key : Text) (row : Row) → IsLess v key w → IsGoodBut v m → row.plan.key ≡ key → row.governing ≡ None → row.issued ≡ None → IsGoodBut w (enter m key row)
enter-good v w m key row less good keyed free not_issued =
    put-good v w m key (row_after_entry (situation m) key row) less good (entered_row m key row good.regs_in_order keyed free not_issued)

pub enter-from_good : (m : State) (key : Text) (row : Row) → IsGood m → row.plan.key ≡ key → row.governing ≡ None → row.issued ≡ None → IsGood (enter m key row)
enter-from_good m key row good keyed free not_issued =
    from_but (enter m key row) (enter-good none_waits none_waits m key row (λ q _ w. w) (to_but m good) keyed free not_issued)

-- the row that a look-up finds
pub good_row : (m : State) (key : Text) (row : Row) → IsGood m → row_of m key ≡ Some row → IsGoodRow m.clock m.regs key row
good_row m key row good found = all_at (λ (e : Text × Row). IsGoodRow m.clock m.regs e.0 e.1) key row m.rows good.rows found

-- a flight that is removed
pub without-good : (m : State) (key : Text) → IsGood m → IsGood (record m { rows = without m.rows key })
without-good m key good = record {
  rows_in_order = sorted-remove (is_at (text_cmp key)) m.rows good.rows_in_order;
  regs_in_order = good.regs_in_order;
  rows = all-remove (λ (e : Text × Row). IsGoodRow m.clock m.regs e.0 e.1) (is_at (text_cmp key)) m.rows good.rows;
}

-- a flight that is exempted
pub exempted-good : (m : State) (key : Text) (row : Row) → IsGood m → row_of m key ≡ Some row → IsGood (with_row m key (exempted row))
exempted-good m key row good found =
    let new : Row = exempted row in
    from_but (with_row m key new)
    (put-good none_waits none_waits m key new (λ q _ w. w) (to_but m good) (free_row m.clock m.regs key new (good_row m key row good found).keyed refl refl (λ p q. cc)))

-- a step leads to a good state
abbrev pub KeepsGood : State → Step → Type 0
KeepsGood m s = IsGood (after m s)
