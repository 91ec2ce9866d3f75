-- how the printing of a text ends, where there is none
use Rattle.std.proofs.Common.{◌≡◌, ℕ, List, Option, refl, sym, subst, inl, inr}
use Rattle.std.specs.Prelude.{Bool, Result, Ok, Err, IsErrAnd}
use Rattle.casa_flight.specs.declared.call.Call.{Call}
use Rattle.casa_app.specs.declared.fault.PrintFault.{PrintFault}
use Rattle.casa_app.specs.Printed.{IsUnanswered, IsWhole, PrintEnds, TextAfter}
use Rattle.casa_app.specs.Remarked.{Says, SaysAll}
use Rattle.casa_app.proofs.Remarked.{says_at}

-- how it ends is how it ends at the fault that is passed on
ends_at : {X : Type 0} (text_after : TextAfter) (result : Result X PrintFault) (fault : PrintFault) (r s v w : Option (List ℕ)) → IsErrAnd result (λ f. f ≡ fault)
    → PrintEnds {X = X} text_after (Err fault) r s v w → PrintEnds text_after result r s v w
ends_at text_after (Ok x) fault r s v w e h = absurd e
ends_at {X} text_after (Err f) fault r s v w e h = subst (λ q. PrintEnds {X = X} text_after (Err q) r s v w) (sym e) h

-- memory for the text was refused, or what is asked for is not there
pub ends_unanswered : {X : Type 0} (text_after : TextAfter) (result : Result X PrintFault) (fault : PrintFault) (answered : List Call) (r s v : Option (List ℕ))
    → IsErrAnd result (λ f. f ≡ fault) → IsWhole r answered → IsUnanswered (text_after answered) fault → PrintEnds text_after result r s v v
ends_unanswered {X} text_after result fault answered r s v e whole (inl none) =
    ends_at text_after result fault r s v v e (subst (λ q. PrintEnds {X = X} text_after (Err q) r s v v) (sym none) refl)
ends_unanswered {X} text_after result fault answered r s v e whole (inr (inl reg, missing)) =
    ends_at text_after result fault r s v v e (subst (λ q. PrintEnds {X = X} text_after (Err q) r s v v) (sym reg)
    (record { answered = answered; whole = whole; missing = subst (λ q. text_after answered ≡ Err q) reg missing }, refl))
ends_unanswered {X} text_after result fault answered r s v e whole (inr (inr flight, missing)) =
    ends_at text_after result fault r s v v e (subst (λ q. PrintEnds {X = X} text_after (Err q) r s v v) (sym flight)
    (record { answered = answered; whole = whole; missing = subst (λ q. text_after answered ≡ Err q) flight missing }, refl))

-- and all lines have been answered then, of which is said what is said of them
pub says_unanswered : {X : Type 0} (text_after : TextAfter) (strict marked : Bool) (result : Result X PrintFault) (fault : PrintFault) (answered : List Call) (r s v w : Option (List ℕ))
    → IsErrAnd result (λ f. f ≡ fault) → IsUnanswered (text_after answered) fault → SaysAll strict marked r v w → Says strict marked result r s v w
says_unanswered {X} text_after strict marked result fault answered r s v w e (inl none) h =
    says_at strict marked result fault r s v w e (subst (λ q. Says {X = X} strict marked (Err q) r s v w) (sym none) (inr h))
says_unanswered {X} text_after strict marked result fault answered r s v w e (inr (inl reg, missing)) h =
    says_at strict marked result fault r s v w e (subst (λ q. Says {X = X} strict marked (Err q) r s v w) (sym reg) h)
says_unanswered {X} text_after strict marked result fault answered r s v w e (inr (inr flight, missing)) h =
    says_at strict marked result fault r s v w e (subst (λ q. Says {X = X} strict marked (Err q) r s v w) (sym flight) h)
