use Rattle.std.proofs.Common.{map, subst, sym}
use Rattle.casa_history.specs.Entries.{entries}
use Rattle.casa_history.specs.Settlement.{Precedes}
use Rattle.casa_history.proofs.Settling.{settled_before}
use Rattle.casa_history.proofs.settlement.settle.Goals as goal

pub returns-in-Some-clause-least : goal.returns-in-Some-clause-least
returns-in-Some-clause-least g c d before =
    let both = c.earlier.ensures.before d (subst (Precedes d) (sym c.in-Some.is) before) in
    settled_before (entries c.args.history.now) (map g.P.Holds.held c.args.passes.now)
    c.torn_pass-pass.result c.torn_entry-entry.result
    c.torn_pass-pass.ensures.others c.torn_entry-entry.ensures.others d both.0 both.1

pub returns-in-None-clause-settled : goal.returns-in-None-clause-settled
returns-in-None-clause-settled g c d =
    let both = c.earlier.ensures.before d (subst (Precedes d) (sym c.in-None.is) tt) in
    settled_before (entries c.args.history.now) (map g.P.Holds.held c.args.passes.now)
    c.torn_pass-pass.result c.torn_entry-entry.result
    c.torn_pass-pass.ensures.others c.torn_entry-entry.ensures.others d both.0 both.1
