-- what a session wrote that came to its end, over a desk that is alone
use Rattle.std.proofs.Common.{◌≡◌, ℕ, List, [], ◌++◌, Option, Some, subst, true}
use Rattle.std.specs.Prelude.{Result, Ok, Err}
use Rattle.casa_flight.specs.declared.call.Call.{Call}
use Rattle.casa_session.specs.declared.fault.SessionFault.{SessionFault}
use Rattle.casa_session.specs.declared.fault.SessionFault.TheVariants.{LineTooLong, ReadFailed, WriteFailed, ForeignPass, NoMemory}
use Rattle.casa_session.specs.Alone.{lone_sides, transcript_after}
use Rattle.casa_session.specs.Lines.{lines_of}
use Rattle.casa_session.specs.Transcript.{Ends, calls}
use Rattle.casa_session.proofs.PlayedCalls.{lone-answered}
use Rattle.casa_trial.specs.Ended.{came_to_end}

told-whole : (ended : Result ℕ SessionFault) (before now : List Call) (lines text : List ℕ) (left : Option (List ℕ)) → came_to_end ended ≡ true
    → Ends ⊥ ended (lone_sides before now (Some lines) left (Some []) (Some text))
    → (text ≡ transcript_after before (lines_of lines)) × (now ≡ before ++ calls (lines_of lines))
told-whole (Ok n) before now lines text left whole ends = lone-answered before now (Some []) (Some text) (lines_of lines) ends.0
told-whole (Err LineTooLong) before now lines text left whole ends = lone-answered before now (Some []) (Some text) (lines_of lines) ends.0
told-whole (Err ReadFailed) before now lines text left whole ends = absurd (cc)
told-whole (Err (WriteFailed n)) before now lines text left whole ends = absurd (cc)
told-whole (Err ForeignPass) before now lines text left whole ends = absurd (cc)
told-whole (Err NoMemory) before now lines text left whole ends = absurd (cc)

-- the same where nothing stood there before
pub told : (ended : Result ℕ SessionFault) (before now : List Call) (lines start text : List ℕ) (left : Option (List ℕ)) → came_to_end ended ≡ true → start ≡ []
    → Ends ⊥ ended (lone_sides before now (Some lines) left (Some start) (Some text))
    → (text ≡ transcript_after before (lines_of lines)) × (now ≡ before ++ calls (lines_of lines))
told ended before now lines start text left whole empty ends =
    told-whole ended before now lines text left whole
    (subst (λ (bytes : List ℕ). Ends ⊥ ended (lone_sides before now (Some lines) left (Some bytes) (Some text))) empty ends)
