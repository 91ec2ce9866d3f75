use Rattle.std.proofs.Common.{◌∙◌, arith}
use Rattle.casa_inquiry.specs.Why.{holdings, holdings_at}
use Rattle.casa_inquiry.proofs.Held.{row_of_slot}
use Rattle.casa_inquiry.proofs.Waiting.{next_slot}
use Rattle.casa_inquiry.proofs.why.holdings.Goals as goal

pub loop-slot-preserved : goal.loop-slot-preserved
loop-slot-preserved c =
    next_slot (holdings_at c.args.list.now) c.loop-slot.slot c.waited-from.result.1 c.loop-slot.all.items c.push_holdings.new.all.items (holdings c.args.key.now c.args.list.now)
    c.loop-slot-test.true c.in_ok-push_holdings.ensures c.loop-slot.invariant

pub push_holdings-requires-clause-held : goal.push_holdings-requires-clause-held
push_holdings-requires-clause-held c =
    c.deref.ensures.value
    ∙ row_of_slot c.args.list.now c.waited-from.result.0 c.waited-from.result.1 c.loop-slot.slot c.in_ok-rows.rows.items c.index.result.now (omega arith) c.loop-slot-test.true
    c.in_ok-rows.ensures.number c.in_ok-rows.ensures.held c.index.ensures
