-- what is legal for a board is of a single thread
use Rattle.std.proofs.Common.{◌≡◌, ℕ, ◌≤◌, Option, List, length, take, sym, ap, subst, ◌∙◌}
use Rattle.casa_flight.specs.declared.call.Call.{Call}
use Rattle.casa_flight.specs.declared.reply.Reply.{Reply}
use Rattle.casa_flight.specs.Replies.{reply}
use Rattle.casa_flight.specs.State.{empty}
use Rattle.casa_flight.specs.Steps.{next}
use Rattle.casa_history.specs.declared.entry.Entry.{Entry}
use Rattle.casa_commit.specs.Legal.{IsLegal}
use Rattle.casa_view.specs.BoardState.{opening, after}
use Rattle.casa_plan.specs.Rooms.{IsSequential}
use Rattle.casa_plan.proofs.Replayed.{state_replayed}
use Rattle.casa_tape.specs.Lines.{whole_lines}
use Rattle.casa_day.specs.declared.script.Script.{Ghosts as ScriptOf}
use Rattle.casa_day.specs.Scripts.{answers_in, Say}
use Rattle.casa_day.specs.Journals.{Keeps}
use Rattle.casa_day.proofs.Saying.{say_calls}
use Rattle.casa_day.proofs.Following.{calls_take, answers_follow, right_take}
use Rattle.casa_interleavings.specs.declared.event.Event.{Event}
use Rattle.casa_interleavings.specs.declared.event.Outcome.{Outcome}
use Rattle.casa_interleavings.specs.Scenes.{IsRun}
use Rattle.casa_interleavings.specs.Board.{sequential_reply, HasSameStamps}
use Rattle.casa_interleavings.proofs.OneThread.{are_sequential}

abbrev Entries : Type 0
Entries = List (Entry Call Reply)

-- a history of one thread is legal for a board
pub legal : (history : Entries) → IsSequential history → IsLegal after (λ s call. reply s.state call) opening history
legal history is k e at = is k e at ∙ ap (λ m. reply m e.call) (sym (state_replayed (take k history)))

-- and so are its first entries
pub legal_take : (count : ℕ) (history : Entries) → IsSequential history
    → IsLegal after (λ s call. reply s.state call) opening (take count history)
legal_take count history is = right_take after (λ s call. reply s.state call) count 1 opening history (legal history is)

pub sequential_run : (events : List (Event Call)) (history : Entries) (outcomes : ℕ → Option Outcome)
    → IsRun sequential_reply HasSameStamps events history outcomes → IsSequential history
sequential_run events history outcomes is = subst IsSequential (sym is.2) (are_sequential events is.0 is.1)

-- who reads a file that keeps a history reads its first calls and replies
pub read_again : {S : Type 0} → (script : ScriptOf S Call Reply) (history read : Entries) (least : ℕ) (file : List ℕ)
    → IsSequential history → IsSequential read → Keeps script history least file → Say script 1 (whole_lines file) read
    → (count : ℕ) × (least ≤ count) × (count ≤ length history) × (answers_in read ≡ take count (answers_in history))
read_again script history read least file is also keeps said = (
  keeps.count,
  keeps.enough,
  keeps.within,
  answers_follow (λ position m call. next m call) reply 1 empty history read keeps.count is also
      (say_calls script 1 (whole_lines file) read (take keeps.count history) said keeps.said ∙ calls_take keeps.count history),
)
