use Rattle.std.proofs.Common.{[], rules}
use Rattle.std.proofs.lemmas.List.Sorted.{IsPartitionPoint-from_clause}
use Rattle.casa_grid.specs.declared.slot.Place.TheVariants.{Over}
use Rattle.casa_flight.specs.declared.comp.Assigned.{Assigned}
use Rattle.casa_slots.specs.Walk.{is_below}
use Rattle.casa_slots.proofs.Found.{first_behind}
use Rattle.casa_slots.proofs.walk.count_below.Goals as goal

pub returns-clause-value : goal.returns-clause-value
returns-clause-value c =
    let x : Assigned = record { comp = record { eto = 0; key = [] }; place = Over } in
    let below = λ (a : Assigned). is_below c.args.k a.place in
    let point = IsPartitionPoint-from_clause below _ _ c.partition_point.ensures.partitioned (c.requires c.args.k) (λ a r q h. search rules) in
    first_behind below x _ _ c.partition_point.ensures.bound point
