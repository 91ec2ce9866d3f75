use Rattle.std.proofs.Common.{map, arith}
use Rattle.std.proofs.lemmas.List.Elements.{All-map}
use Rattle.casa_history.specs.declared.pass.Pass.{Pass}
use Rattle.casa_history.specs.Entries.{entries}
use Rattle.casa_history.specs.Settlement.{IsSettled, Precedes}
use Rattle.casa_history.proofs.settlement.torn_pass.Goals as goal

pub returns-clause-others : goal.returns-clause-others
returns-clause-others g c =
    let ps = map g.P.Holds.held c.args.passes.now in
    let P = λ (p : Pass g.row.C.Denot g.row.R.Denot). Precedes p.desk c.loop-holder.torn →
    IsSettled p.desk (entries c.args.history.now) ps in
    All-map P g.P.Holds.held c.args.passes.now (λ k h within. c.loop-holder.invariant.others k h (omega arith))
