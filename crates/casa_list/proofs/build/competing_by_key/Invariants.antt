use Rattle.std.proofs.Common.{◌≡◌, take}
use Rattle.std.specs.List.{filter_map}
use Rattle.casa_flight.specs.declared.row.Stance.{Stance}
use Rattle.casa_filing.specs.Text.{Text}
use Rattle.casa_flight.specs.Listing.{competitor}
use Rattle.casa_slots.specs.Walk.{comps_in}
use Rattle.casa_list.proofs.build.competing_by_key.Given as goal

abbrev pub invariant-loop-member : goal.invariant-loop-member
invariant-loop-member l = comps_in l.all.items ≡ filter_map (λ (e : Text × Stance). competitor e.0 e.1) (take l.member-index l.member-items)
