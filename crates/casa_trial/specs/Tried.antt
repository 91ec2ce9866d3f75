-- to believe: what comes of lines that are tried
use Rattle.std.specs.Prelude.{◌≡◌, ℕ, List, ◌++◌, length}
use Rattle.casa_flight.specs.declared.call.Call.{Call}
use Rattle.casa_flight.specs.State.{catalogue}
use Rattle.casa_engine.specs.declared.look.Look.{Look}
use Rattle.casa_engine.specs.Delays.{lists_in}
use Rattle.casa_session.specs.Alone.{transcript_after}
use Rattle.casa_session.specs.Lines.{lines_of}
use Rattle.casa_session.specs.Played.{state_after_calls}
use Rattle.casa_session.specs.Transcript.{calls}
use Rattle.casa_trial.specs.declared.tried.Tried.{Tried}

-- what is looked at after some calls: how many they are, and of the state to which they lead the clock, the open regulations
-- in the order of their identifiers, and their lists
pub record IsLookAfter (answered : List Call) (look : Look) : Type 0 where
  pub calls : look.calls ≡ length answered
  pub clock : look.clock ≡ (state_after_calls answered).clock
  pub regulations : look.regulations.items ≡ catalogue (state_after_calls answered)
  pub lists : look.lists.items ≡ lists_in (state_after_calls answered)

-- what comes of lines that are tried after some calls: their transcript, as of a desk that is alone after these, and what is
-- looked at before their calls and after them
pub record IsTriedAfter (answered : List Call) (lines : List ℕ) (tried : Tried) : Type 0 where
  pub text : tried.text.items ≡ transcript_after answered (lines_of lines)
  pub before : IsLookAfter answered tried.before
  pub after : IsLookAfter (answered ++ calls (lines_of lines)) tried.after
