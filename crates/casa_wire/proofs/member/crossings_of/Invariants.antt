use Rattle.std.proofs.Common.{◌≡◌, ◌++◌, option_map, drop}
use Rattle.serde_json.specs.View.{items_view}
use Rattle.casa_wire.specs.Members.{all_of, crossing_of}
use Rattle.casa_wire.proofs.member.crossings_of.Given as goal

abbrev pub invariant-loop-value : goal.invariant-loop-value
invariant-loop-value l =
    option_map (λ rest. l.found.items ++ rest) (all_of crossing_of (items_view (drop l.value-index l.list.items))) ≡ all_of crossing_of (items_view l.list.items)
