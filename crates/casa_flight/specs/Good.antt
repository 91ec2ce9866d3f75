-- to believe: good states
use Rattle.std.specs.Prelude.{◌≡◌, ℕ, ◌≤◌, List, true, false, None, Some, MatchOption}
use Rattle.std.specs.List.{AllByRecursion}
use Rattle.std.specs.List.Sorted.{IsStrictlySortedBy}
use Rattle.std.specs.Map.{keys_of}
use Rattle.std.specs.Cmp.Lexicographic.{slice_cmp}
use Rattle.std.specs.Ordering.{nat_cmp}
use Rattle.casa_grid.specs.Profile.{end_of}
use Rattle.casa_filing.specs.declared.regulation.Measure.{Measure}
use Rattle.casa_flight.specs.declared.row.Row.{Row}
use Rattle.casa_flight.specs.declared.state.State.{State}
use Rattle.casa_filing.specs.Text.{Text, at_name}
use Rattle.casa_filing.specs.FlightPlan.{FlightPlan}
use Rattle.casa_filing.specs.Subject.{regulation, subject, is_due, is_gone}
use Rattle.casa_flight.specs.State.{is_exempt}

-- the entries of a map are in the order of their names, each name once
abbrev pub AreInOrder : {X : Type 0} → List (Text × X) → Type 0
AreInOrder es = IsStrictlySortedBy (slice_cmp nat_cmp) (keys_of es)

-- the plan is subject to none of these regulations
abbrev pub IsOutside : List (Text × Measure) → FlightPlan → Type 0
IsOutside regs plan = AllByRecursion (λ (e : Text × Measure). subject plan (regulation e.0 e.1) ≡ None) regs

-- a governed flight is subject to its regulation, which is open, and not exempt; it is issued exactly if it is due, at a
-- time from its own to the end of the regulation
pub record IsGoverned (clock : ℕ) (regs : List (Text × Measure)) (row : Row) (id : Text) : Type 0 where
  pub measure : Measure
  pub is_open : at_name regs id ≡ Some measure
  pub eto : ℕ
  pub is_subject : subject row.plan (regulation id measure) ≡ Some eto
  pub not_exempt : is_exempt row ≡ false
  pub issued :
      MatchOption row.issued (is_due clock row.plan ≡ false)
      (λ cto. (is_due clock row.plan ≡ true) × (eto ≤ cto) × (cto ≤ end_of measure.profile))

-- a flight that nothing governs is not issued, and it is exempt, gone or subject to nothing
pub record IsFree (clock : ℕ) (regs : List (Text × Measure)) (row : Row) : Type 0 where
  pub not_issued : row.issued ≡ None
  pub left : is_exempt row ≡ false → is_gone clock row.plan ≡ false → IsOutside regs row.plan

-- a flight stands under the key of its plan, governed as it should be or free as it should be
pub record IsGoodRow (clock : ℕ) (regs : List (Text × Measure)) (key : Text) (row : Row) : Type 0 where
  pub keyed : row.plan.key ≡ key
  pub standing : MatchOption row.governing (IsFree clock regs row) (IsGoverned clock regs row)

-- a good state: what every call keeps
pub record IsGood (m : State) : Type 0 where
  pub rows_in_order : AreInOrder m.rows
  pub regs_in_order : AreInOrder m.regs
  pub rows : AllByRecursion (λ (e : Text × Row). IsGoodRow m.clock m.regs e.0 e.1) m.rows
