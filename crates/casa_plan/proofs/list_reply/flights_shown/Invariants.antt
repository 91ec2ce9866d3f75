use Rattle.std.proofs.Common.{◌≡◌, ◌++◌, map, take}
use Rattle.std.specs.List.{filter_map}
use Rattle.casa_filing.specs.Text.{Text}
use Rattle.casa_flight.specs.declared.comp.Comp.{Comp}
use Rattle.casa_flight.specs.declared.row.Stance.{Stance}
use Rattle.casa_slots.specs.declared.standing.Standing.{Standing}
use Rattle.casa_list.specs.Standings.{standings, count_governed, forced_flight}
use Rattle.casa_plan.specs.Rows.{row_as}
use Rattle.casa_plan.proofs.list_reply.flights_shown.Given as goal

abbrev pub invariant-loop-n : goal.invariant-loop-n
invariant-loop-n g l =
    l.rows.items ≡ map (λ (f : Comp × Standing). row_as l.view l.list f.0 f.1) (take l.n (standings l.list))

abbrev pub invariant-loop-member : goal.invariant-loop-member
invariant-loop-member g l =
    l.rows.items ≡ map (λ (f : Comp × Standing). row_as l.view l.list f.0 f.1) (take (count_governed l.list) (standings l.list) ++ filter_map (λ (e : Text × Stance). forced_flight e.0 e.1) (take l.member-index l.member-items))
