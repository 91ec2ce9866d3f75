use Rattle.std.proofs.Common.{◌∙◌, ap, sym}
use Rattle.casa_slots.specs.Walk.{low_after}
use Rattle.casa_slots.proofs.Walks.{low_behind-end}
use Rattle.casa_slots.proofs.walk.low_behind.Goals as goal

pub returns-in-Some : goal.returns-in-Some
returns-in-Some c = c.low_after.ensures ∙ ap (low_after c.args.slots) c.place.ensures ∙ sym (low_behind-end c.args.slots 0 c.args.competitors.now c.in-Some.last.now (sym c.in-Some.ensures.value))
