use Rattle.std.proofs.Common.{◌≡◌, ◌+◌, ◌++◌, drop}
use Rattle.casa_look.specs.SinceText.{news_behind}
use Rattle.casa_look.proofs.since.news_behind.Given as goal

abbrev pub invariant-loop-entry : goal.invariant-loop-entry
invariant-loop-entry l = record {
  place : l.next ≡ l.position + l.entry-index;
  told : l.all.items ++ news_behind l.next (drop l.entry-index l.entries) ≡ news_behind l.position l.entries;
}
