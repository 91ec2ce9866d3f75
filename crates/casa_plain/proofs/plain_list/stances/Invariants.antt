use Rattle.std.proofs.Common.{◌≡◌, []}
use Rattle.casa_flight.specs.Listing.{filter_map_values, stance_in}
use Rattle.casa_laws.proofs.Kept.{put_all}
use Rattle.casa_plain.proofs.plain_list.stances.Given as goal

abbrev pub invariant-loop-key : goal.invariant-loop-key
invariant-loop-key l =
    put_all l.flights.entries (filter_map_values (stance_in l.id l.measure) l.key-iterator)
    ≡ put_all [] (filter_map_values (stance_in l.id l.measure) l.rows.entries)
