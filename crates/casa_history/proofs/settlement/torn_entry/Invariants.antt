use Rattle.std.proofs.Common.{◌≢◌, ℕ, ◌<◌, [], map, get_or, IfSome}
use Rattle.casa_history.specs.declared.entry.Entry.{Entry}
use Rattle.casa_history.specs.Entries.{entries}
use Rattle.casa_history.specs.Settlement.{passes_of, IsSettled, Precedes}
use Rattle.casa_history.proofs.settlement.torn_entry.Given as goal

abbrev pub invariant-loop-entry : goal.invariant-loop-entry
invariant-loop-entry g l = record {
  torn : IfSome l.torn (λ d. IsSettled d (entries l.history) (map g.P.Holds.held l.passes) → ⊥);
  others : (k : ℕ) (e : Entry g.row.C.Denot g.row.R.Denot) → k < l.entry-index →
      Precedes (get_or (entries l.history) k e).desk l.torn →
      passes_of (get_or (entries l.history) k e).desk (map g.P.Holds.held l.passes) ≢ [];
}
