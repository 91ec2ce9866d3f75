-- a run of a board, in the words of the sequential allocator
use Rattle.std.proofs.Common.{◌≡◌, List, subst}
use Rattle.casa_flight.specs.declared.call.Call.{Call}
use Rattle.casa_flight.specs.declared.reply.Reply.{Reply}
use Rattle.casa_flight.specs.Replies.{reply}
use Rattle.casa_history.specs.declared.entry.Entry.{Entry}
use Rattle.casa_commit.specs.Legal.{replay}
use Rattle.casa_commit.proofs.Replays.{good_state}
use Rattle.casa_view.specs.BoardState.{BoardState, IsGoodBoard, opening, after}
use Rattle.casa_view.specs.GoodBoard.{opening_is_good, after_is_good}
use Rattle.casa_plan.specs.Rooms.{IsBoardAfter}
use Rattle.casa_plan.proofs.Replayed.{state_replayed, stands}
use Rattle.casa_interleavings.specs.Scenes.{IsRun}
use Rattle.casa_interleavings.specs.Board.{sequential_reply, HasSameStamps}
use Rattle.casa_interleavings.specs.Runs.{Played, run_events, run_history, run_outcomes}
use Rattle.casa_interleavings.specs.Openings.{IsBoardRun}

abbrev Replying : Type 0
Replying = List (Entry Call Reply) → Call → Reply

-- the reply of a board after a history is that of the sequential allocator
same_reply : (λ before call. reply (replay after opening before).state call) ≡ sequential_reply
same_reply i before call = reply (state_replayed before i) call

-- a run, with the reply of the sequential allocator
pub ran : {B : Type 0} → (run : Played B Call Reply)
    → IsRun (λ before call. reply (replay after opening before).state call) HasSameStamps
    (run_events run) (run_history run) (run_outcomes run)
    → IsBoardRun run
ran run is =
    subst (λ (r : Replying). IsRun r HasSameStamps (run_events run) (run_history run) (run_outcomes run)) same_reply is

-- how the board stands that is the replay of a history
pub stands_after : (history : List (Entry Call Reply)) {s : BoardState} → s ≡ replay after opening history
    → IsBoardAfter history s
stands_after history {s} is =
    stands history s is (good_state IsGoodBoard after after_is_good opening opening_is_good history s is)
