use Rattle.std.proofs.Common.{◌≡◌, ◌++◌, take}
use Rattle.casa_lines.specs.Texts.{behind_commas}
use Rattle.casa_lines.proofs.object.push_behind_commas.Given as goal

abbrev pub invariant-loop-item : goal.invariant-loop-item
invariant-loop-item g l = l.out.items ≡ l.fn.out.items ++ behind_commas g.T.Texts.text (take l.item-index l.items)
