use Rattle.std.proofs.Common.{◌≡◌, ◌+◌, take}
use Rattle.casa_day.specs.Scripts.{IsTextOf}
use Rattle.casa_day.proofs.text.text_of.Given as goal

-- the text so far is that of the entries so far
abbrev pub invariant-loop-entry : goal.invariant-loop-entry
invariant-loop-entry g l = record {
  position : l.position ≡ l.before + l.entry-index;
  text : IsTextOf g.S.Script (l.before + 1) (take l.entry-index l.entries) l.text.items;
}
