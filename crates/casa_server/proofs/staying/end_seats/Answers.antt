use Rattle.std.proofs.Common.{◌∷◌, [], ◌++◌, append_assoc, length, map, sym, ap, ◌∙◌, arith}
use Rattle.std.proofs.lemmas.List.{map-append}
use Rattle.casa_engine.proofs.Seeing.{begins_itself, begins_more}
use Rattle.casa_server.specs.Begun.{source_of}
use Rattle.casa_server.proofs.Seats.{all_sat_in_more, one_more_sat, sat_in_more}
use Rattle.casa_server.proofs.staying.end_seats.Goals as goal

pub ending-init : goal.ending-init
ending-init g c = (
  c.into_iter-seat-iterator.ensures.into_iter_gives.0,
  begins_itself _,
  rw c.requires.none tt,
  omega (arith, c.requires.room, c.args.sats.ok.0, ap length c.requires.none, ap length c.into_iter-seat-iterator.ensures.into_iter_gives.0),
)

pub push_reserved-requires : goal.push_reserved-requires
push_reserved-requires g c = omega (arith, c.ending.invariant.3, ap length c.in-Some.ensures.steps.0)

pub ending-preserved : goal.ending-preserved
ending-preserved g c =
    let seen = c.ending.invariant in
    let coming = g.S.Connections.coming in
    let next = c.in-Some.seat in
    let sat = c.join-seen.result.0 in (
      append_assoc c.ending.yielded (next ∷ []) c.next.new.self.rest.items
          ∙ ap (λ l. c.ending.yielded ++ l) (sym c.in-Some.ensures.steps.0) ∙ seen.0,
      begins_more _ _ _ seen.1 c.joined.ensures.this,
      rw c.push_reserved.ensures.items (rw (map-append source_of c.ending.yielded (next ∷ [])) (rw (map-append coming (map source_of c.ending.yielded) (source_of next ∷ []))
          (one_more_sat _ _ _ _ c.joined.result _ c.ending.sats.items (coming (source_of next)) sat
          (all_sat_in_more _ _ _ _ c.ending.front c.joined.result _ c.ending.sats.items c.joined.ensures.this seen.2)
          (sat_in_more _ _ _ _ c.join-seen.result.1 c.joined.result _ sat c.joined.ensures.that c.join-seen.ensures)))),
      omega (arith, seen.3, c.push_reserved.ensures.len, c.push_reserved.ensures.capacity, ap length c.in-Some.ensures.steps.0),
    )
