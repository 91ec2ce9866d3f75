use Rattle.std.proofs.KnownBytes.{Appends-trans}
use Rattle.casa_wire.specs.LineTexts.{too_long_line}
use Rattle.casa_session.proofs.Gathered.{cut_after, too_long_unwritten}
use Rattle.casa_session.proofs.replies.Replies.end_too_long.Goals as goal

pub returns-in-Err : goal.returns-in-Err
returns-in-Err g c = too_long_unwritten c.in-Err.unwritten c.args.self.now _ _ c.in-Err.ensures.err

pub returns-in-Ok : goal.returns-in-Ok
returns-in-Ok g c =
    let sent = rw c.too_long_line.ensures at c.in-Ok.ensures.ok in
    Appends-trans _ _ _ c.args.self.now.bytes.items too_long_line c.in_default.ensures.ok sent

pub returns-in-Err-send : goal.returns-in-Err-send
returns-in-Err-send g c =
    let (k, within, cut, reported) = rw c.too_long_line.ensures at c.in-Err-send.ensures.err in
    cut_after too_long_line c.args.self.now k _ c.in-Err-send.unsent.written _ _ _ c.in_default.ensures.ok c.in_default.ensures.count within cut reported
