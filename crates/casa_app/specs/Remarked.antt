-- to believe: what is said of the lines of an input, beside what is printed after them
use Rattle.std.specs.Prelude.{◌≡◌, ◌≢◌, ◌⊎◌, ℕ, List, [], Bool, IsTrue, Option, Some, Result, Ok, Err, IfSome}
use Rattle.std.specs.Io.KnownBytes.{Appends}
use Rattle.casa_flight.specs.declared.call.Call.{Call}
use Rattle.casa_session.specs.declared.fault.SessionFault.{SessionFault}
use Rattle.casa_session.specs.Alone.{lone_sides, transcript_after}
use Rattle.casa_session.specs.Lines.{lines_of}
use Rattle.casa_session.specs.Sending.{IsCutOff}
use Rattle.casa_session.specs.Transcript.{Ends}
use Rattle.casa_app.specs.declared.fault.PrintFault.{PrintFault}
use Rattle.casa_app.specs.declared.fault.PrintFault.TheVariants.{Session, WriteFailed, NoRegulation, NoFlight, FaultyLines, NoMemory}
use Rattle.casa_app.specs.Remarks.{remarks, said}

-- a text was written, or its first bytes and not all of it, where the writer failed
abbrev pub IsSaid : (v w : Option (List ℕ)) → List ℕ → Type 0
IsSaid v w text = Appends v w text ⊎ IsCutOff v w text

-- the replies to all lines of an input
abbrev pub replies_to : List ℕ → List ℕ
replies_to xs = transcript_after [] (lines_of xs)

-- what is said of the replies to all lines was said, and where faulty lines are not to be there was nothing to say
abbrev pub SaysAll : (strict marked : Bool) → (r v w : Option (List ℕ)) → Type 0
SaysAll strict marked r v w = IfSome r (λ xs. IsSaid v w (said marked (replies_to xs)) × (IsTrue strict → remarks (replies_to xs) ≡ []))

-- it was said, and there was something to say
abbrev pub SaysSome : (marked : Bool) → (r v w : Option (List ℕ)) → Type 0
SaysSome marked r v w = IfSome r (λ xs. IsSaid v w (said marked (replies_to xs)) × (remarks (replies_to xs) ≢ []))

-- the session over an input with r to s left ended by this fault, and it was said what is said of the replies until then
abbrev pub SaysUntil : SessionFault → (marked : Bool) → (r s v w : Option (List ℕ)) → Type 0
SaysUntil fault marked r s v w =
    (answered : List Call) × (replies : List ℕ) × Ends ⊥ (Err fault) (lone_sides [] answered r s (Some []) (Some replies))
    × IsSaid v w (said marked replies)

-- what is said where it ends so, of an input with r to s left: of the replies to all lines; of those until the session's
-- fault; and nothing where there was no memory for the desk. Where faulty lines are not to be, it ends by them exactly where
-- there are such lines, but at a session's fault and where there was no memory
abbrev pub Says : {X : Type 0} → (strict marked : Bool) → Result X PrintFault → (r s v w : Option (List ℕ)) → Type 0
Says strict marked (Ok done) r s v w = SaysAll strict marked r v w
Says strict marked (Err (Session fault)) r s v w = SaysUntil fault marked r s v w
Says strict marked (Err FaultyLines) r s v w = IsTrue strict × SaysSome marked r v w
Says strict marked (Err NoRegulation) r s v w = SaysAll strict marked r v w
Says strict marked (Err NoFlight) r s v w = SaysAll strict marked r v w
Says strict marked (Err WriteFailed) r s v w = SaysAll strict marked r v w
Says strict marked (Err NoMemory) r s v w = (w ≡ v) ⊎ SaysAll strict marked r v w
