use Rattle.std.proofs.Common.{◌≡◌, length, ap, sym, ◌∙◌}
use Rattle.casa_history.specs.Entries.{receipts, receipts_of, desk_of}
use Rattle.casa_engine.specs.Fronts.{IsSeenIn}
use Rattle.casa_engine.specs.Receipts.{IsReceiptOf}
use Rattle.casa_engine.proofs.Standing.{accepted_stands}
use Rattle.casa_engine.proofs.Following.{are_receipts}
use Rattle.casa_engine.proofs.Seeing.{counted_more, accepted_seen, accepted_told, same_told}
use Rattle.casa_engine.proofs.counted.CountedRoom.locked.Goals as goal

pub returns-clause-stands : goal.returns-clause-stands
returns-clause-stands g c =
    accepted_stands g.W.World c.args.self.now.room c.args.desk.now.pass c.args.call.now c.in_ok-receipt.ensures.accepted.0
    c.in_ok-receipt.receipt c.locked.new.self c.locked.new.pass c.in_ok-receipt.ensures.accepted.1

pub returns-clause-seen : goal.returns-clause-seen
returns-clause-seen g c =
    let desk = c.args.desk.now in
    accepted_seen g.W.World c.args.self.now.room desk.pass c.args.call.now c.in_ok-receipt.ensures.accepted.0
    c.in_ok-receipt.receipt c.locked.new.self c.locked.new.pass c.in_ok-receipt.ensures.accepted.1
    desk.front c.args.self.now.keeper c.enter.new.front c.enter.ensures.known c.args.self.now.kept
    (c.enter.ensures.seen ∙ c.enter.ensures.pushed)

-- a refusal leaves the pass as it was
pub invariant_of-desk : goal.invariant_of-desk
invariant_of-desk g c =
    let desk = c.args.desk.now in
    let pass = c.locked.new.pass in
    let same = c.in_err-receipt.ensures.refused.same_pass in
    let told = same_told desk.pass pass desk.front same desk.told in
    record {
      part = desk.part;
      counted = desk.counted ∙ ap length (sym same.2);
      legal = desk.legal;
      told = told;
      stand = ∣ are_receipts g.W.World (desk_of pass) desk.front (receipts pass) told desk.legal ∣₁;
    }

-- the pass has one receipt more, and has seen all
pub invariant_of-desk-2 : goal.invariant_of-desk-2
invariant_of-desk-2 g c =
    let desk = c.args.desk.now in
    let pass = c.locked.new.pass in
    let now = c.enter.new.front in
    let given = c.in_ok-receipt.receipt in
    let accepted = c.in_ok-receipt.ensures.accepted.1 in
    let pushed = c.enter.ensures.seen ∙ c.enter.ensures.pushed in
    let stands : IsReceiptOf g.W.World desk.pass _ given pass =
    accepted_stands g.W.World c.args.self.now.room desk.pass c.args.call.now c.in_ok-receipt.ensures.accepted.0 given c.locked.new.self pass accepted in
    let seen : IsSeenIn g.W.World desk.front given now =
    accepted_seen g.W.World c.args.self.now.room desk.pass c.args.call.now c.in_ok-receipt.ensures.accepted.0 given c.locked.new.self pass accepted
    desk.front c.args.self.now.keeper now c.enter.ensures.known c.args.self.now.kept pushed in
    let told : receipts pass ≡ receipts_of (desk_of pass) now =
    accepted_told g.W.World c.args.self.now.room desk.pass c.args.call.now c.in_ok-receipt.ensures.accepted.0 given c.locked.new.self pass accepted
    desk.front c.args.self.now.keeper now c.enter.ensures.known c.args.self.now.kept pushed desk.told in
    record {
      part = c.enter.ensures.parts ∙ desk.part;
      counted = counted_more _ _ _ _ given desk.counted c.enter.ensures.amount stands.kept.2;
      legal = seen.legal;
      told = told;
      stand = ∣ are_receipts g.W.World (desk_of pass) now (receipts pass) told seen.legal ∣₁;
    }
