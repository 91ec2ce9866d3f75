use Rattle.std.proofs.Common.{◌≡◌, ◌∙◌, ap, sym, length}
use Rattle.casa_grid.specs.Slots.{slots}
use Rattle.casa_slots.specs.Blocked.{lowered}
use Rattle.casa_slots.specs.Walk.{low_behind, place_low, walked, comps_in}
use Rattle.casa_slots.proofs.Leaving.{length-lowered}
use Rattle.casa_slots.proofs.Walks.{low_behind-append}
use Rattle.casa_slots.proofs.walk.place_once_moved.Goals as goal

pub returns : goal.returns
returns c =
    let ws = slots c.args.grid.now in
    let bs = lowered c.args.blocked.now.counts c.args.left in
    let xs = c.args.front.now in
    let cs = comps_in c.args.others.now in
    let size : length bs ≡ length c.args.blocked.now.counts = length-lowered c.args.blocked.now.counts c.args.left in
    let front : c.low_behind-behind.result ≡ low_behind (length bs) 0 xs = c.low_behind-behind.ensures ∙ ap (λ n. low_behind n 0 xs) (c.slots.ensures ∙ sym size) in
    c.place_once_left.ensures
    ∙ ap (λ low. place_low ws bs low c.args.eto)
    (c.low_once_left-low.ensures
    ∙ ap (λ low. low_behind (length bs) low (walked ws bs low cs)) front
    ∙ sym (low_behind-append (length bs) 0 xs (walked ws bs (low_behind (length bs) 0 xs) cs)))
