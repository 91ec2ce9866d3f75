-- inner contracts: what a row changes
use Rattle.std.specs.Prelude.{◌≡◌, ℕ, ◌+◌, Bool, List, [], ◌∷◌, ◌++◌, fold, option_to_list, Result, Ok, Err, if◌then◌else◌}
use Rattle.std.specs.List.{list_any}
use Rattle.casa_filing.specs.Text.{Text, same_text}
use Rattle.casa_filing.specs.FlightPlan.{FlightPlan}
use Rattle.casa_filing.specs.declared.plan.Crossing.{Crossing}
use Rattle.casa_import.specs.declared.crossings.CrossingsRead.{CrossingsRead}
use Rattle.casa_import.specs.declared.filings.Filings.{Filings}
use Rattle.casa_import.specs.declared.reason.Reason.{Reason}
use Rattle.casa_import.specs.declared.reason.RowFault.{RowFault}
use Rattle.casa_import.specs.declared.reason.RowFault.TheVariants.{LeftOut, NoMemory}
use Rattle.casa_rows.specs.declared.row.Row.{Row}
use Rattle.casa_import.specs.declared.crossings.Keys.{Keys}
use Rattle.casa_import.specs.Keyed.{flown, has_key}
use Rattle.casa_import.specs.Filings.{and_then, is_filed, outcome_of}
use Rattle.casa_import.specs.Filing.{enter}
use Rattle.casa_import.specs.Crossings.{Entry, left_out_of, made_of, of_flights, of_key, of_no_flight}

-- whether a flight with these crossings has entered the location of an entry
abbrev pub has_entered : Entry → List Crossing → Bool
has_entered e via = list_any (λ (c : Crossing). same_text c.loc e.1.loc) via

-- how many of the entries, of which there is one or none, enter a location again
abbrev pub count_again : (Text → List Crossing) → List Entry → ℕ
count_again crossings [] = 0
count_again crossings (e ∷ _) = if has_entered e (crossings e.0) then 1 else 0

-- what was read, and the row behind it, which says this
pub record Takes (named : Text → Bool) (row : Row) (said : Result Entry Reason) (old new : CrossingsRead) : Type 0 where
  pub crossings : (key : Text) → flown new.crossings key ≡ flown old.crossings key ++ of_key key (of_flights named (option_to_list (made_of said)))
  pub left_out : new.left_out.items ≡ old.left_out.items ++ option_to_list (left_out_of row said)
  pub of_no_flight : new.of_no_flight ≡ old.of_no_flight + of_no_flight named (option_to_list (made_of said))
  pub entered_again : new.entered_again ≡ old.entered_again + count_again (flown old.crossings) (of_flights named (option_to_list (made_of said)))

-- what was made, and a row behind it, at this line, which makes this
abbrev pub TakesFiling : ℕ → Result FlightPlan RowFault → Filings → Filings → Type 0
TakesFiling line (Ok plan) old new = outcome_of new ≡ and_then (outcome_of old) line (Ok plan)
TakesFiling line (Err (LeftOut reason)) old new = outcome_of new ≡ and_then (outcome_of old) line (Err reason)
TakesFiling line (Err NoMemory) old new = ⊥

-- the keys are those of the filings
abbrev pub IsKeyed : Filings → Keys → Type 0
IsKeyed filings keys = (key : Text) → has_key keys key ≡ is_filed filings.plans.items key

-- these crossings, and behind them the entries that a row says
abbrev pub and_entered : List Crossing → Result (List Crossing) Reason → Result (List Crossing) Reason
and_entered via (Ok entries) = Ok (fold enter via entries)
and_entered via (Err reason) = Err reason
