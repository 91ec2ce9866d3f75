-- to believe: how a text ends that is printed after all lines of an input
use Rattle.std.specs.Prelude.{◌≡◌, ◌⊎◌, ℕ, List, [], false, Option, Some, Result, Ok, Err, IfSome}
use Rattle.std.specs.Io.KnownBytes.{Appends}
use Rattle.casa_filing.specs.Text.{Text}
use Rattle.casa_flight.specs.declared.call.Call.{Call}
use Rattle.casa_session.specs.declared.fault.SessionFault.{SessionFault}
use Rattle.casa_session.specs.Alone.{lone_sides}
use Rattle.casa_session.specs.Lines.{lines_of, has_too_long}
use Rattle.casa_session.specs.Sending.{IsCutOff}
use Rattle.casa_session.specs.Transcript.{Ends, calls}
use Rattle.casa_app.specs.declared.fault.PrintFault.{PrintFault}
use Rattle.casa_app.specs.declared.fault.PrintFault.TheVariants.{Session, WriteFailed, NoRegulation, NoFlight, FaultyLines, NoMemory}

-- none of an input's lines is too long, and these are the calls of all of them; any calls where its bytes are not known
abbrev pub IsWhole : Option (List ℕ) → List Call → Type 0
IsWhole r answered = IfSome r (λ xs. (has_too_long (lines_of xs) ≡ false) × (answered ≡ calls (lines_of xs)))

-- the session over an input with r to s left ended by this fault
abbrev pub SessionEnds : SessionFault → (r s : Option (List ℕ)) → Type 0
SessionEnds fault r s =
    (answered : List Call) × (replies : List ℕ) × Ends ⊥ (Err fault) (lone_sides [] answered r s (Some []) (Some replies))

-- what is printed after some calls: a text, or nothing, by the fault that says what is not there
abbrev pub TextAfter : Type 0
TextAfter = List Call → Result Text PrintFault

-- after all lines of an input there is a text to be printed, and this is so of it
pub record IsMade (text_after : TextAfter) (r : Option (List ℕ)) (IsSo : Text → Type 0) : Type 0 where
  pub answered : List Call
  pub whole : IsWhole r answered
  pub text : Text
  pub made : text_after answered ≡ Ok text
  pub is_so : IsSo text

-- after all lines of an input what is asked for is not there
pub record IsMissing (text_after : TextAfter) (r : Option (List ℕ)) (fault : PrintFault) : Type 0 where
  pub answered : List Call
  pub whole : IsWhole r answered
  pub missing : text_after answered ≡ Err fault

-- how it ends, of an input with r to s left: with the text after all lines, and nothing else; with nothing written where the
-- session ended by a fault, where lines that have faults or are refused are not to be, where what is asked for is not there
-- after all lines, or where memory was refused; after the first bytes of the text, and not all of them, where a write failed
abbrev pub PrintEnds : {X : Type 0} → TextAfter → Result X PrintFault → (r s v w : Option (List ℕ)) → Type 0
PrintEnds text_after (Ok done) r s v w = IsMade text_after r (Appends v w)
PrintEnds text_after (Err (Session fault)) r s v w = SessionEnds fault r s × (w ≡ v)
PrintEnds text_after (Err FaultyLines) r s v w = w ≡ v
PrintEnds text_after (Err NoRegulation) r s v w = IsMissing text_after r NoRegulation × (w ≡ v)
PrintEnds text_after (Err NoFlight) r s v w = IsMissing text_after r NoFlight × (w ≡ v)
PrintEnds text_after (Err NoMemory) r s v w = w ≡ v
PrintEnds text_after (Err WriteFailed) r s v w = IsMade text_after r (IsCutOff v w)

-- inner: these faults say what is not there
abbrev pub SaysWhatIsMissing : PrintFault → Type 0
SaysWhatIsMissing fault = (fault ≡ NoRegulation) ⊎ (fault ≡ NoFlight)

-- inner: why there is no text: memory was refused, or the answer is the fault, which says what is not there
abbrev pub IsUnanswered : Result Text PrintFault → PrintFault → Type 0
IsUnanswered answer fault = (fault ≡ NoMemory) ⊎ (SaysWhatIsMissing fault × (answer ≡ Err fault))
