-- how a comparison ends at a fault of its base, and what is said of an input
use Rattle.std.proofs.Common.{◌≡◌, ◌<◌, ◌+◌, ℕ, List, [], Bool, Option, Some, length, take, refl, subst, inl, inr}
use Rattle.std.specs.Prelude.{Result, Ok, Err, IfErr, IsErrAnd, OnOk, codes}
use Rattle.jiff_core.specs.declared.civil.date.Date.{Date}
use Rattle.std.specs.Io.KnownBytes.{Appends}
use Rattle.casa_filing.specs.Text.{Text}
use Rattle.casa_cli.specs.declared.tasks.Format.{Format}
use Rattle.casa_session.specs.Sending.{saturating_count}
use Rattle.casa_session.specs.declared.sending.Unsent.{Unsent}
use Rattle.casa_app.specs.declared.fault.PrintFault.{PrintFault}
use Rattle.casa_app.specs.Compared.{BaseEnds, CompareEnds, CompareSays, IsSaidOf, SaysBelow}
use Rattle.casa_app.specs.Remarked.{IsSaid, Says}

-- it ends by the fault that is passed on
passed_on : {X : Type 0} (result : Result X PrintFault) (fault : PrintFault) → IsErrAnd result (λ f. f ≡ fault) → result ≡ Err fault
passed_on (Ok x) fault e = absurd e
passed_on (Err f) fault e = let same : f ≡ fault = e in cc

-- the base ended by a fault: nothing is read of the variant, and nothing written
pub ends_at_base : {X : Type 0} (day : Date) (format : Format) (result : Result X PrintFault) (fault : PrintFault) (r s p v : Option (List ℕ)) → IsErrAnd result (λ f. f ≡ fault)
    → BaseEnds fault r s → CompareEnds day format result r s p p v v
ends_at_base day format result fault r s p v e ends = inl (fault, passed_on result fault e, ends, refl, refl)

-- and what is said is of its lines
pub says_at_base : {X : Type 0} (strict base variant : Bool) (result : Result X PrintFault) (fault : PrintFault) (r s p q v w : Option (List ℕ))
    → IsErrAnd result (λ f. f ≡ fault) → SaysBelow {X = X} (codes "casa: base:\n") strict base (Err fault) r s v w
    → CompareSays strict base variant result r s p q v w
says_at_base strict base variant result fault r s p q v w e says = inl (fault, passed_on result fault e, says)

-- a text was kept behind nothing, and then said below a line
pub below : {X : Type 0} (word : Text) (strict marked : Bool) (result : Result X PrintFault) (r s v w : Option (List ℕ)) (start said text : List ℕ)
    → start ≡ [] → Says strict marked result r s (Some start) (Some said) → text ≡ said → IsSaidOf word v w text → SaysBelow word strict marked result r s v w
below word strict marked result r s v w start said text none says same of_it = (
  said,
  subst (λ (l : List ℕ). Says strict marked result r s (Some l) (Some said)) none says,
  subst (λ (l : List ℕ). IsSaidOf word v w l) same of_it,
)

-- a text was sent, or its first bytes
pub is_sent : (result : Result ℕ Unsent) (v w : Option (List ℕ)) (text : List ℕ) (written : ℕ) → OnOk result (Appends v w text)
    → IfErr result (λ e. (k : ℕ) × (k < length text) × Appends v w (take k text) × (e.written ≡ saturating_count (written + k))) → IsSaid v w text
is_sent (Ok n) v w text written whole cut = inl whole
is_sent (Err e) v w text written whole (k, short, first, count) = inr (k, short, first)
