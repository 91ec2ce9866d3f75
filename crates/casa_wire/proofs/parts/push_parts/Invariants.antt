use Rattle.std.proofs.Common.{◌≡◌, ◌++◌, take}
use Rattle.casa_wire.specs.Parts.{parts_text}
use Rattle.casa_wire.proofs.parts.push_parts.Given as goal

abbrev pub invariant-loop-part : goal.invariant-loop-part
invariant-loop-part l = l.out.items ≡ l.fn.out.items ++ parts_text (take l.part-index l.parts)
