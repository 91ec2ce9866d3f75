use Rattle.std.proofs.Common.{subst}
use Rattle.casa_flight.specs.Good.{AreInOrder}
use Rattle.casa_table.proofs.Layers.{put-next}
use Rattle.casa_table.proofs.table.Base.copied.Goals as goal

pub loop-name-preserved-in_ok-put : goal.loop-name-preserved-in_ok-put
loop-name-preserved-in_ok-put g c =
    rw c.in_ok-put.ensures.written
    (put-next c.loop-name.copy c.loop-name.name-iterator c.next.new.self c.args.self.now c.in-Some.name.now
    c.in-Some.value.now c.in_ok-try_clone.field-0
    (subst (λ es. AreInOrder es) c.self.view_is c.self.invariant.0) c.in_ok-try_clone.ensures c.in-Some.ensures.steps
    c.loop-name.invariant)

pub loop-name-preserved : goal.loop-name-preserved
loop-name-preserved g c =
    rw c.in_ok-put.ensures.written
    (put-next c.loop-name.copy c.loop-name.name-iterator c.next.new.self c.args.self.now c.in-Some.name.now
    c.in-Some.value.now c.in_ok-try_clone.field-0
    (subst (λ es. AreInOrder es) c.self.view_is c.self.invariant.0) c.in_ok-try_clone.ensures c.in-Some.ensures.steps
    c.loop-name.invariant)
