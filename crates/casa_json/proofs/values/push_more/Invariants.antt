use Rattle.std.proofs.Common.{◌≡◌, ◌++◌, take}
use Rattle.casa_wire.specs.Parts.{more_text}
use Rattle.casa_json.proofs.values.push_more.Given as goal

abbrev pub invariant-loop-item : goal.invariant-loop-item
invariant-loop-item g l = l.out.items ≡ l.fn.out.items ++ more_text g.T.Json.value (take l.item-index l.items)
