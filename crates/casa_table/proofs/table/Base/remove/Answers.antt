use Rattle.std.proofs.Common.{None, sym}
use Rattle.casa_filing.specs.Text.{at_name}
use Rattle.casa_table.proofs.Layers.{where-put}
use Rattle.casa_table.proofs.table.Base.remove.Goals as goal

pub invariant_of-self-2 : goal.invariant_of-self-2
invariant_of-self-2 g c =
    let es = c.self.inside.values.entries in
    let now = c.remove.new.self.entries in
    let index = c.self.inside.index in
    let fewer =
    where-put (λ at. g.I.Index.covers index at) c.args.name.now None es now c.self.invariant.0 c.remove.ensures.entries
    (g.met.I.Index.fewer index (at_name es) c.args.name.now c.self.invariant.1) in
    (c.remove.ensures.ordered, c.forget.ensures (at_name now) (sym c.get.ensures.value) fewer)
