-- to believe: the filings that rows of flights make, and the rows that are left out
use Rattle.std.specs.Prelude.{ℕ, Bool, List, [], ◌∷◌, ◌++◌, fold, Result, Ok, Err, if◌then◌else◌}
use Rattle.std.specs.List.{list_any}
use Rattle.std.specs.List.Sorted.{IsPermutation, IsSortedByKey, IsStableByKey}
use Rattle.std.specs.Ordering.{nat_cmp}
use Rattle.casa_filing.specs.Text.{Text, same_text}
use Rattle.casa_filing.specs.FlightPlan.{FlightPlan}
use Rattle.casa_filing.specs.declared.plan.Crossing.{Crossing}
use Rattle.casa_import.specs.declared.columns.FlightColumns.{FlightColumns}
use Rattle.casa_import.specs.declared.columns.ImportOptions.{ImportOptions}
use Rattle.casa_import.specs.declared.filings.Filings.{Filings}
use Rattle.casa_import.specs.declared.reason.LeftOut.{LeftOut}
use Rattle.casa_import.specs.declared.reason.Reason.{Reason}
use Rattle.casa_import.specs.declared.reason.Reason.TheVariants.{Duplicate}
use Rattle.casa_rows.specs.declared.row.Row.{Row}
use Rattle.casa_import.specs.Filing.{filing_of}

-- the filings that rows make, and the rows that are left out, each in the order of the file
pub record Outcome : Type 0 where
  pub plans : List FlightPlan
  pub left_out : List LeftOut

abbrev pub nothing : Outcome
nothing = record { plans = []; left_out = [] }

-- whether one of these filings has this key
abbrev pub is_filed : List FlightPlan → Text → Bool
is_filed plans key = list_any (λ (p : FlightPlan). same_text p.key key) plans

abbrev pub and_left_out : Outcome → ℕ → Reason → Outcome
and_left_out o line reason = record o { left_out = o.left_out ++ record { line = line; reason = reason } ∷ [] }

-- a row behind these makes a filing, unless it is left out; of the rows with one key the first that can makes the filing
abbrev pub and_then : Outcome → ℕ → Result FlightPlan Reason → Outcome
and_then o line (Ok plan) = if is_filed o.plans plan.key then and_left_out o line Duplicate else record o { plans = o.plans ++ plan ∷ [] }
and_then o line (Err reason) = and_left_out o line reason

-- what rows make, with the crossings of each key
abbrev pub outcome : ImportOptions → FlightColumns → (Text → List Crossing) → List Row → Outcome
outcome options columns crossings rows =
    fold (λ (o : Outcome) (row : Row). and_then o row.line (filing_of options columns crossings row)) nothing rows

-- what the program has as the outcome
abbrev pub outcome_of : Filings → Outcome
outcome_of filings = record { plans = filings.plans.items; left_out = filings.left_out.items }

-- whether two filings have one key
abbrev pub have_one_key : FlightPlan → FlightPlan → Bool
have_one_key p q = same_text p.key q.key

-- these filings, sorted by their off-block times, and those of one time in the order that they had
pub record IsByOffBlockTime (before after : List FlightPlan) : Type 0 where
  pub same : IsPermutation before after
  pub sorted : IsSortedByKey (λ (p : FlightPlan). p.eobt) nat_cmp after
  pub stable : IsStableByKey (λ (p : FlightPlan). p.eobt) nat_cmp before after
