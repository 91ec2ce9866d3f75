use Rattle.std.proofs.Common.{◌∙◌, sym}
use Rattle.casa_rows.specs.Rows.{config}
use Rattle.casa_rows.specs.Walk.{state}
use Rattle.casa_rows.proofs.Places.{at_end, ends_here, goes_on}
use Rattle.casa_rows.proofs.walk.record_len.Goals as goal

pub returns-in_default-clause-behind : goal.returns-in_default-clause-behind
returns-in_default-clause-behind c =
    ends_here (config c.args.separator) (state c.loop-i.within) c.args.text.now c.loop-i.i c.loop-i-test.true c.in_default.ensures ∙ sym c.loop-i.invariant

pub loop-i-preserved : goal.loop-i-preserved
loop-i-preserved c =
    c.loop-i.invariant
    ∙ goes_on (config c.args.separator) (state c.loop-i.within) (state c.in-Some.to) c.args.text.now c.loop-i.i c.loop-i-test.true c.in-Some.ensures.0 c.in-Some.ensures.1

pub returns-clause-behind : goal.returns-clause-behind
returns-clause-behind c =
    at_end (config c.args.separator) (state c.loop-i.within) c.args.text.now c.loop-i.i c.loop-i-test.false ∙ sym c.loop-i.invariant
