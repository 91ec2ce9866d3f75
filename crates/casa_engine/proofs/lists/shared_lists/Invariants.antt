use Rattle.std.specs.Prelude.{◌≡◌, List, take}
use Rattle.casa_flight.specs.declared.call.Call.{Call}
use Rattle.casa_flight.specs.declared.reply.Reply.{Reply}
use Rattle.casa_history.specs.declared.entry.Entry.{Entry}
use Rattle.casa_footprint.specs.Stamps.{state_after}
use Rattle.casa_plan.specs.Rooms.{IsBoardAfter}
use Rattle.casa_view.specs.Board.{versions}
use Rattle.casa_view.specs.BoardState.{board_state}
use Rattle.casa_engine.specs.Delays.{lists_in}
use Rattle.casa_engine.proofs.lists.shared_lists.Given as goal

abbrev pub invariant-loop-regulation : goal.invariant-loop-regulation
invariant-loop-regulation g l =
    (history : List (Entry Call Reply))
    → IsBoardAfter history (board_state g.K.Version.Version.item_of g.K.Version.Version.stamp_of (versions l.fn.board.items))
    → l.lists.items ≡ take l.regulation-index (lists_in (state_after history))
