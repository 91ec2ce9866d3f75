use Rattle.std.proofs.Common.{◌≡◌, ◌++◌, drop}
use Rattle.casa_html.specs.Recorded.{scripted}
use Rattle.casa_html.proofs.text.push_scripted.Given as goal

abbrev pub invariant-loop-byte : goal.invariant-loop-byte
invariant-loop-byte l = l.text.items ++ scripted (drop l.byte-index l.json) ≡ l.fn.text.items ++ scripted l.json
