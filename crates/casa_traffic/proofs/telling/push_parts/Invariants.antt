use Rattle.std.proofs.Common.{◌≡◌, ◌++◌, take}
use Rattle.casa_traffic.specs.Parts.{parts_text}
use Rattle.casa_traffic.proofs.telling.push_parts.Given as goal

abbrev pub invariant-loop-part : goal.invariant-loop-part
invariant-loop-part l = l.text.items ≡ l.fn.text.items ++ parts_text (take l.part-index l.parts)
