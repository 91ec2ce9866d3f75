use Rattle.std.proofs.Common.{◌≡◌, map, take}
use Rattle.std.specs.List.{All, filter_map}
use Rattle.casa_flight.specs.declared.row.Stance.{Stance}
use Rattle.casa_filing.specs.Text.{Text}
use Rattle.casa_slots.specs.Seat.{HoldsTime, issued_in}
use Rattle.casa_list.specs.Standings.{issued_flight}
use Rattle.casa_list.proofs.build.issued_by_key.Given as goal

abbrev pub invariant-loop-member : goal.invariant-loop-member
invariant-loop-member l = (map issued_in l.all.items ≡ filter_map (λ (e : Text × Stance). issued_flight e.0 e.1) (take l.member-index l.member-items)) × All HoldsTime l.all.items
