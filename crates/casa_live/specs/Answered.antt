-- to believe: how a browser's lines are answered
use Rattle.std.specs.Prelude.{◌≡◌, ◌⊎◌, ℕ, List, [], Option, None, Some, Result, Ok, Err, ⊤}
use Rattle.std.specs.Option.{option_map_or}
use mathlib.Core.List.{IsPrefix}
use Rattle.casa_flight.specs.declared.call.Call.{Call}
use Rattle.casa_flight.specs.declared.reply.Reply.{Reply}
use Rattle.casa_history.specs.declared.entry.Entry.{Entry}
use Rattle.casa_history.specs.declared.pass.Pass.{Pass}
use Rattle.casa_history.specs.Entries.{receipts, receipts_of}
use Rattle.casa_commit.specs.declared.world.World.{Ghosts as WorldOf}
use Rattle.casa_commit.specs.Legal.{IsLegal}
use Rattle.casa_plan.specs.Rooms.{IsSequential}
use Rattle.casa_session.specs.declared.fault.SessionFault.{SessionFault}
use Rattle.casa_session.specs.declared.fault.SessionFault.TheVariants.{LineTooLong, ReadFailed, WriteFailed, ForeignPass, NoMemory}
use Rattle.casa_session.specs.Receipts.{Receipts}
use Rattle.casa_session.specs.Transcript.{Ends}

-- inner: each history that is legal in this world is one of a single thread
abbrev pub AreSequential : {W V D : Type 0} → WorldOf W Call V D Reply → Type 0
AreSequential world = (es : List (Entry Call Reply)) → IsLegal world.after world.reply world.opening es → IsSequential es

-- the receipts of a desk that may not have been opened yet
abbrev pub given_by : {P : Type 0} → (P → Pass Call Reply) → Option P → Receipts
given_by {P} pass_of desk = option_map_or (λ (p : P). receipts (pass_of p)) desk []

-- what is told of what a session wrote: all of it where it came to the end of its lines, or to one that is too long
abbrev pub text_told : Result ℕ SessionFault → List ℕ → Option (List ℕ)
text_told (Ok n) written = Some written
text_told (Err LineTooLong) written = Some written
text_told (Err ReadFailed) written = None
text_told (Err (WriteFailed n)) written = None
text_told (Err ForeignPass) written = None
text_told (Err NoMemory) written = None

-- Who had seen one history, and whose desk had some receipts, has now seen another, and the desk has others: a session of the
-- desk answered these lines, as far as it came, and this is told of it. The receipts are those of the desk's entries in a
-- history of one thread, with which the one begins that is now seen.
pub record IsAnswered (lines : List ℕ) (told : Option (List ℕ)) (before after : Receipts) (seen now : List (Entry Call Reply))
    : Type 0 where
  pub ended : Result ℕ SessionFault
  pub left : Option (List ℕ)
  pub written : List ℕ
  pub ends : Ends ⊤ ended (record {
    input = Some lines;
    input_left = left;
    receipts = before;
    receipts_now = after;
    output = Some [];
    output_now = Some written;
  })
  pub told_is : told ≡ text_told ended written
  pub history : List (Entry Call Reply)
  pub of_one_thread : IsSequential history
  pub desk : ℕ
  pub receipts_are : after ≡ receipts_of desk history
  pub known : IsPrefix history now
  pub sequential : IsSequential now
  pub longer : IsPrefix seen now

-- they were answered so; or nothing was, since no desk could be had
abbrev pub HasAnswered : (lines : List ℕ) (told : Option (List ℕ)) (before after : Receipts) (seen now : List (Entry Call Reply)) → Type 0
HasAnswered lines told before after seen now =
    IsAnswered lines told before after seen now ⊎ ((told ≡ None) × (after ≡ before) × (now ≡ seen))
