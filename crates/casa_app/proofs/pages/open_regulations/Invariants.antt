use Rattle.std.proofs.Common.{◌≡◌, ◌++◌, drop}
use Rattle.std.specs.List.{filter_map}
use Rattle.casa_app.specs.Pages.{opened}
use Rattle.casa_session.specs.Played.{state_after_calls}
use Rattle.casa_app.proofs.pages.open_regulations.Given as goal

abbrev pub invariant-loop-list : goal.invariant-loop-list
invariant-loop-list l =
    l.all.items ++ filter_map (opened (state_after_calls l.lone)) (drop l.list-index l.lists)
    ≡ filter_map (opened (state_after_calls l.lone)) l.lists
