use Rattle.std.proofs.Common.{◌≡◌, ◌∙◌, ◌+◌, ap, sym, length, drop, rules}
use Rattle.casa_grid.specs.Slots.{slots}
use Rattle.casa_slots.specs.Blocked.{lowered}
use Rattle.casa_slots.specs.Walk.{low_after, low_behind, place_low, walked, comps_in}
use Rattle.casa_slots.proofs.Leaving.{length-lowered, walk_next, follow_next, walk_stays}
use Rattle.casa_slots.proofs.walk.low_once_left.Goals as goal

pub returns-then-eq : goal.returns-then-eq
returns-then-eq c =
    let ws = slots c.args.grid.now in
    let bs = lowered c.args.blocked.now.counts c.args.left in
    let xs = c.args.competitors.now in
    let x = c.seat-item.result in
    let size : length bs ≡ length c.args.blocked.now.counts = length-lowered c.args.blocked.now.counts c.args.left in
    let stays : place_low ws bs c.loop-seat.low x.comp.eto ≡ x.place = search rules in
    c.low_behind.ensures
    ∙ ap (λ n. low_behind n 0 xs) (c.slots.ensures ∙ sym size)
    ∙ walk_stays ws bs c.loop-seat.low c.loop-seat.seat-index xs x c.loop-seat-test.true c.seat-item.is stays c.loop-seat.invariant.1
    ∙ c.loop-seat.invariant.0

pub loop-seat-preserved : goal.loop-seat-preserved
loop-seat-preserved c =
    let ws = slots c.args.grid.now in
    let bs = lowered c.args.blocked.now.counts c.args.left in
    let xs = c.args.competitors.now in
    let i = c.loop-seat.seat-index in
    let x = c.seat-item.result in
    let size : length bs ≡ length c.args.blocked.now.counts = length-lowered c.args.blocked.now.counts c.args.left in
    let next : c.low_after-low.result ≡ low_after c.slots-in-loop-seat.result c.place_once_left-place.result = search rules in
    let place_is : c.place_once_left-place.result ≡ place_low ws bs c.loop-seat.low x.comp.eto = search rules in
    let low_is : c.low_after-low.result ≡ low_after (length bs) (place_low ws bs c.loop-seat.low x.comp.eto) = next ∙ (λ j. low_after ((c.slots-in-loop-seat.ensures ∙ sym size) j) (place_is j)) in (
      ap (λ low. low_behind (length bs) low (walked ws bs low (comps_in (drop (i + 1) xs)))) low_is
          ∙ sym (walk_next ws bs c.loop-seat.low i xs x c.loop-seat-test.true c.seat-item.is)
          ∙ c.loop-seat.invariant.0,
      follow_next ws bs i xs x c.loop-seat-test.true c.seat-item.is c.loop-seat.invariant.1,
    )
