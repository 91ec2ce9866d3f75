use Rattle.std.proofs.Common.{ℕ, ◌<◌, map, get_or, IfSome}
use Rattle.casa_history.specs.Entries.{entries}
use Rattle.casa_history.specs.Settlement.{IsSettled, Precedes}
use Rattle.casa_history.proofs.settlement.torn_pass.Given as goal

abbrev pub invariant-loop-holder : goal.invariant-loop-holder
invariant-loop-holder g l = record {
  torn : IfSome l.torn (λ d. IsSettled d (entries l.history) (map g.P.Holds.held l.passes) → ⊥);
  others : (k : ℕ) (h : g.row.P.Denot) → k < l.holder-index →
      Precedes (g.P.Holds.held (get_or l.passes k h)).desk l.torn →
      IsSettled (g.P.Holds.held (get_or l.passes k h)).desk (entries l.history) (map g.P.Holds.held l.passes);
}
