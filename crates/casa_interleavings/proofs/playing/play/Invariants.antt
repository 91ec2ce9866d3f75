use Rattle.std.proofs.Common.{◌≡◌, take}
use Rattle.casa_view.specs.Board.{versions}
use Rattle.casa_view.specs.BoardState.{board_state}
use Rattle.casa_plan.specs.Rooms.{IsBoardAfter}
use Rattle.casa_interleavings.specs.Scenes.{IsRun}
use Rattle.casa_interleavings.specs.Board.{sequential_reply, HasSameStamps}
use Rattle.casa_interleavings.specs.Runs.{run_events, run_history, run_world, run_outcomes}
use Rattle.casa_interleavings.proofs.playing.play.Given as goal

abbrev pub invariant-loop-event : goal.invariant-loop-event
invariant-loop-event g l = record {
  events : run_events l.run ≡ take l.event-index l.events;
  run : IsRun sequential_reply HasSameStamps (run_events l.run) (run_history l.run) (run_outcomes l.run);
  stands : IsBoardAfter (run_history l.run)
      (board_state g.K.Version.Version.item_of g.K.Version.Version.stamp_of (versions (run_world l.run).items));
}
