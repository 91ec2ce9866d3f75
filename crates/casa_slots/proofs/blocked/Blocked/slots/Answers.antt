use Rattle.std.proofs.Common.{◌∙◌, sym, ap, length}
use Rattle.casa_slots.specs.Sparse.{Blocks}
use Rattle.casa_slots.proofs.Sparse.{length-dense}
use Rattle.casa_slots.proofs.blocked.Blocked.slots.Goals as goal

pub returns : goal.returns
returns c = sym (length-dense c.self.inside.slots c.self.inside.blocks.items) ∙ ap (λ (b : Blocks). length b.counts) c.self.view_is
