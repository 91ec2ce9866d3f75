use Rattle.std.specs.Prelude.{◌≡◌, take}
use Rattle.casa_session.specs.Played.{state_after_calls}
use Rattle.casa_app.specs.Summaries.{lists_after}
use Rattle.casa_app.proofs.costs.ask_all_lists.Given as goal

abbrev pub invariant-loop-regulation : goal.invariant-loop-regulation
invariant-loop-regulation l = record {
  told : l.lists.items ≡ take l.regulation-index (lists_after l.fn.lone);
  stays : state_after_calls l.lone ≡ state_after_calls l.fn.lone;
}
