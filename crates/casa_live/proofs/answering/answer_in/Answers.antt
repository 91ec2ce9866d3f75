use Rattle.std.proofs.Common.{None, Some, ap, sym}
use Rattle.casa_history.specs.Entries.{desk_of, receipts}
use Rattle.casa_engine.specs.Passes.{pass_of}
use Rattle.casa_live.proofs.Sessions.{answered, if_ok, on_err}
use Rattle.casa_live.proofs.answering.answer_in.Goals as goal

pub returns-clause-ok : goal.returns-clause-ok
returns-clause-ok g c =
    if_ok c.told.result
    (λ text is law. answered c.args.lines.now (Some text.items) c.run-ended.result (Some c.run-ended.new.reader.now) c.new-text.result.items
    c.run-ended.new.writer.items (receipts (pass_of c.args.pass)) (receipts (pass_of c.new-desk.result.pass)) (receipts (pass_of c.into_pass.result))
    (receipts (pass_of c.run-ended.new.desk.pass)) c.args.front.now c.front.result c.joined-seen.result c.see.new.front
    (desk_of (pass_of c.run-ended.new.desk.pass)) c.new-text.ensures.items (ap (λ p. receipts (pass_of p)) c.new-desk.ensures)
    (ap (λ p. receipts (pass_of p)) (sym c.into_pass.ensures)) c.run-ended.ensures.ends is
    (law _ c.front.ensures.legal) c.front.ensures.told c.joined-seen.ensures.that c.joined-seen.ensures.this
    c.see.ensures.longer (law _ c.see.ensures.legal))
    c.told.ensures.ok

pub returns-clause-err : goal.returns-clause-err
returns-clause-err g c =
    on_err c.told.result
    (λ is law. answered c.args.lines.now None c.run-ended.result (Some c.run-ended.new.reader.now) c.new-text.result.items
    c.run-ended.new.writer.items (receipts (pass_of c.args.pass)) (receipts (pass_of c.new-desk.result.pass)) (receipts (pass_of c.into_pass.result))
    (receipts (pass_of c.run-ended.new.desk.pass)) c.args.front.now c.front.result c.joined-seen.result c.see.new.front
    (desk_of (pass_of c.run-ended.new.desk.pass)) c.new-text.ensures.items (ap (λ p. receipts (pass_of p)) c.new-desk.ensures)
    (ap (λ p. receipts (pass_of p)) (sym c.into_pass.ensures)) c.run-ended.ensures.ends is
    (law _ c.front.ensures.legal) c.front.ensures.told c.joined-seen.ensures.that c.joined-seen.ensures.this
    c.see.ensures.longer (law _ c.see.ensures.legal))
    c.told.ensures.err
