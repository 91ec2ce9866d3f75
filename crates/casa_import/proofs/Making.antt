-- filings one row after another
use Rattle.std.proofs.Common.{◌≡◌, ◌∙◌, ◌∷◌, ◌++◌, [], ℕ, List, Result, Ok, Err, sym, ap}
use Rattle.std.specs.Prelude.{◌||◌}
use Rattle.std.proofs.lemmas.List.Folds.{list_any-append}
use Rattle.casa_filing.specs.Text.{Text, same_text}
use Rattle.casa_filing.specs.FlightPlan.{FlightPlan}
use Rattle.casa_import.specs.declared.filings.Filings.{Filings}
use Rattle.casa_import.specs.declared.reason.Reason.{Reason}
use Rattle.casa_import.specs.declared.reason.RowFault.{RowFault}
use Rattle.casa_import.specs.declared.reason.RowFault.TheVariants.{LeftOut, NoMemory}
use Rattle.casa_import.specs.Filings.{and_then, is_filed, outcome_of}
use Rattle.casa_import.specs.Gives.{Gives}
use Rattle.casa_import.specs.Taking.{TakesFiling}
use Rattle.casa_import.proofs.Lookups.{or-one_more}

-- what a row makes by its meaning
pub made-meant : (line : ℕ) (filing : Result FlightPlan RowFault) (meaning : Result FlightPlan Reason) (old new : Filings)
    → Gives filing meaning → TakesFiling line filing old new → outcome_of new ≡ and_then (outcome_of old) line meaning
made-meant line (Ok plan) meaning old new is takes = takes ∙ ap (and_then (outcome_of old) line) (sym is)
made-meant line (Err (LeftOut reason)) meaning old new is takes = takes ∙ ap (and_then (outcome_of old) line) (sym is)
made-meant line (Err NoMemory) meaning old new is takes = absurd takes

-- a key is filed once its plan is there
pub is_filed-more : (plans all : List FlightPlan) (plan : FlightPlan) (key : Text) → all ≡ plans ++ plan ∷ []
    → (same_text plan.key key || is_filed plans key) ≡ is_filed all key
is_filed-more plans all plan key e =
    or-one_more (same_text plan.key key) (is_filed plans key)
    ∙ sym (list_any-append (λ (p : FlightPlan). same_text p.key key) plans (plan ∷ []))
    ∙ ap (λ ps. is_filed ps key) (sym e)
