use Rattle.std.proofs.Common.{arith, length-drop}
use Rattle.std.proofs.lemmas.List.{take_rest}
use Rattle.casa_session.proofs.Sent.{appends_next}
use Rattle.casa_session.proofs.sending.send.Goals as goal

pub tries-preserved-in-Ok : goal.tries-preserved-in-Ok
tries-preserved-in-Ok g c =
    let bound = rw take_rest at (c.in-Ok.ensures.bound) in
    record {
      within = omega (arith, simp length-drop at bound);
      appended = appends_next _ _ _ c.args.bytes.now _ c.tries.at c.in-Ok.n c.tries.invariant.appended (take_rest c.args.bytes.now c.tries.at) c.in-Ok.ensures.bytes;
      counted_so = omega (arith, c.saturating_add-count.ensures, c.tries.invariant.counted_so);
    }
