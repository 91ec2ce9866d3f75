use Rattle.std.proofs.Common.{sym, ◌∙◌}
use Rattle.casa_item.proofs.Equal.{item_same}
use Rattle.casa_item.proofs.item.same_item.Goals as goal

-- src/item.rt:78:1
pub returns-clause-shows : goal.returns-clause-shows
returns-clause-shows c = λ h. item_same c.args.one.now c.args.other.now (sym c.eq.ensures ∙ h)
