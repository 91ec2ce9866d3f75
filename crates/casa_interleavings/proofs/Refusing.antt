-- how an opening fails
use Rattle.std.proofs.Common.{◌≡◌, Result, Err, refl, ap, subst, ◌∙◌}
use Rattle.std.specs.Prelude.{IsErrOf, IsErrAnd}
use Rattle.std.proofs.lemmas.Result.{err_from_is_err_and}
use Rattle.casa_tape.specs.declared.tape.TapeError.{TapeError}
use Rattle.casa_tape.specs.declared.tape.TapeError.TheVariants as tape
use Rattle.casa_day.specs.declared.event.OpenFault.{OpenFault}
use Rattle.casa_day.specs.declared.event.OpenFault.TheVariants as opening
use Rattle.casa_day.specs.Faults.{open_fault}
use Rattle.casa_day.specs.Refusals.{IsOfLines}

-- a fault of the tape comes of no line
pub not_of_lines : (e : TapeError) → IsOfLines (open_fault e) → ⊥
not_of_lines tape.NoMemory of = of
not_of_lines tape.Failed of = of

-- a fault that is passed on
pub passed_on : {A E : Type 0} {fault : E} (r : Result A E) → IsErrAnd r (λ e. e ≡ fault) → r ≡ Err fault
passed_on r is = let p = err_from_is_err_and r is in p.1 ∙ ap (λ e. Err e) p.2

-- a result that is an error
abbrev pub failed : {A E : Type 0} → E → Result A E
failed e = Err e

-- what was not read has failed
pub cause_of : {A B X : Type 0} {e : TapeError} {r : Result A TapeError} {q : Result B OpenFault} → r ≡ Err e
    → q ≡ Err (open_fault e) → (IsErrOf r tape.Failed → X) → IsErrOf q opening.NotRead → X
cause_of {A} {B} {X} {e} is also cause not_read =
    step e (subst (λ (x : Result A TapeError). IsErrOf x tape.Failed → X) is cause)
    (subst (λ (x : Result B OpenFault). IsErrOf x opening.NotRead) also not_read)
  where
    step : (e : TapeError) → (IsErrOf (failed {A = A} e) tape.Failed → X)
        → IsErrOf (failed {A = B} (open_fault e)) opening.NotRead → X
    step tape.NoMemory cause not_read = absurd (cc not_read)
    step tape.Failed cause not_read = cause refl
