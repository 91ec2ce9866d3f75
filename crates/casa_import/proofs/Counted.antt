-- each row makes a filing or is left out, and filings have keys of their own
use Rattle.std.proofs.Common.{◌≡◌, ◌∷◌, ◌++◌, [], ℕ, ◌+◌, arith, List, length, length-append, Bool, true, false, cond, refl, Result, Ok, Err}
use Rattle.std.specs.Prelude.{◌||◌, fold}
use Rattle.std.specs.List.{AllByRecursion, IsDistinct}
use Rattle.std.proofs.lemmas.Cmp.{nat_list_eq_equiv}
use Rattle.std.proofs.lemmas.Map.Keys.{IsDistinct-IsPermutation}
use Rattle.casa_filing.specs.FlightPlan.{FlightPlan}
use Rattle.casa_filing.specs.Text.{Text, same_text}
use Rattle.casa_filing.specs.declared.plan.Crossing.{Crossing}
use Rattle.casa_import.specs.declared.columns.FlightColumns.{FlightColumns}
use Rattle.casa_import.specs.declared.columns.ImportOptions.{ImportOptions}
use Rattle.casa_import.specs.declared.reason.Reason.{Reason}
use Rattle.casa_import.specs.declared.reason.Reason.TheVariants.{Duplicate}
use Rattle.casa_rows.specs.declared.row.Row.{Row}
use Rattle.casa_import.specs.Filing.{filing_of}
use Rattle.casa_import.specs.Filings.{IsByOffBlockTime, Outcome, and_left_out, and_then, have_one_key, is_filed, nothing, outcome}

-- what stands behind an outcome, where the key of a plan is filed already or not
abbrev filed_if : Bool → Outcome → ℕ → FlightPlan → Outcome
filed_if b o line plan = cond b (and_left_out o line Duplicate) (record o { plans = o.plans ++ plan ∷ [] })

-- how many rows there were
abbrev count : Outcome → ℕ
count o = length o.plans + length o.left_out

count-left_out : (o : Outcome) (line : ℕ) (reason : Reason) → count (and_left_out o line reason) ≡ count o + 1
count-left_out o line reason = omega (arith, length-append o.left_out (record { line = line; reason = reason } ∷ []))

count-filed : (b : Bool) (o : Outcome) (line : ℕ) (plan : FlightPlan) → count (filed_if b o line plan) ≡ count o + 1
count-filed true o line plan = count-left_out o line Duplicate
count-filed false o line plan = omega (arith, length-append o.plans (plan ∷ []))

count-then : (o : Outcome) (line : ℕ) (said : Result FlightPlan Reason) → count (and_then o line said) ≡ count o + 1
count-then o line (Err reason) = count-left_out o line reason
count-then o line (Ok plan) = count-filed (is_filed o.plans plan.key) o line plan

count-fold : (says : Row → Result FlightPlan Reason) (rows : List Row) (o : Outcome)
    → count (fold (λ (p : Outcome) (row : Row). and_then p row.line (says row)) o rows) ≡ count o + length rows
count-fold says [] o = omega arith
count-fold says (row ∷ rows) o =
    let rest = count-fold says rows (and_then o row.line (says row)) in
    omega (arith, count-then o row.line (says row))

pub all : (options : ImportOptions) (columns : FlightColumns) (crossings : Text → List Crossing) (rows : List Row)
    → count (outcome options columns crossings rows) ≡ length rows
all options columns crossings rows =
    let e = count-fold (filing_of options columns crossings) rows nothing in
    omega arith

-- no two filings have one key
flipped : (a b : Text) → same_text a b ≡ same_text b a
flipped a b = nat_list_eq_equiv.symm a b

none_at : (plans : List FlightPlan) (plan : FlightPlan) → is_filed plans plan.key ≡ false → AllByRecursion (λ p. have_one_key p plan ≡ false) plans
none_at [] plan none = tt
none_at (p ∷ plans) plan none = by (have_one_key p plan) refl none (none_at plans plan)
  where
    by : (b : Bool) → have_one_key p plan ≡ b → (b || is_filed plans plan.key) ≡ false
        → (is_filed plans plan.key ≡ false → AllByRecursion (λ q. have_one_key q plan ≡ false) plans)
        → AllByRecursion (λ q. have_one_key q plan ≡ false) (p ∷ plans)
    by true t n rest = absurd (cc)
    by false t n rest = (t, rest n)

pushed : (plans : List FlightPlan) (plan : FlightPlan) → IsDistinct have_one_key plans → AllByRecursion (λ p. have_one_key p plan ≡ false) plans
    → IsDistinct have_one_key (plans ++ plan ∷ [])
unfolding IsDistinct
pushed [] plan h none = (tt, tt)
pushed (p ∷ plans) plan h none = (behind plans h.0, pushed plans plan h.1 none.1)
  where
    behind : (qs : List FlightPlan) → AllByRecursion (λ q. have_one_key p q ≡ false) qs → AllByRecursion (λ q. have_one_key p q ≡ false) (qs ++ plan ∷ [])
    behind [] all = (none.0, tt)
    behind (q ∷ qs) all = (all.0, behind qs all.1)

keys-filed : (b : Bool) (o : Outcome) (line : ℕ) (plan : FlightPlan) → is_filed o.plans plan.key ≡ b → IsDistinct have_one_key o.plans → IsDistinct have_one_key (filed_if b o line plan).plans
keys-filed true o line plan e h = h
keys-filed false o line plan e h = pushed o.plans plan h (none_at o.plans plan e)

keys-then : (o : Outcome) (line : ℕ) (said : Result FlightPlan Reason) → IsDistinct have_one_key o.plans → IsDistinct have_one_key (and_then o line said).plans
keys-then o line (Err reason) h = h
keys-then o line (Ok plan) h = keys-filed (is_filed o.plans plan.key) o line plan refl h

keys-fold : (says : Row → Result FlightPlan Reason) (rows : List Row) (o : Outcome) → IsDistinct have_one_key o.plans
    → IsDistinct have_one_key (fold (λ (p : Outcome) (row : Row). and_then p row.line (says row)) o rows).plans
keys-fold says [] o h = h
keys-fold says (row ∷ rows) o h = keys-fold says rows (and_then o row.line (says row)) (keys-then o row.line (says row) h)

pub keys : (options : ImportOptions) (columns : FlightColumns) (crossings : Text → List Crossing) (rows : List Row)
    → IsDistinct have_one_key (outcome options columns crossings rows).plans
unfolding IsDistinct
keys options columns crossings rows = keys-fold (filing_of options columns crossings) rows nothing tt

-- sorted or not
pub keys-sorted : (before after : List FlightPlan) → IsByOffBlockTime before after → IsDistinct have_one_key before → IsDistinct have_one_key after
keys-sorted before after is h = IsDistinct-IsPermutation have_one_key (λ p q. flipped p.key q.key) before after is.same h
