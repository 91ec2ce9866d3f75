use Rattle.std.proofs.Common.{◌<◌, ℕ, sym, subst}
use Rattle.casa_interleavings.specs.Scenes.{nothing, most_workers, worker_of, with_hand, read, compute}
use Rattle.casa_interleavings.specs.Rooms.{reply_after, IsRoomWorker}
use Rattle.casa_interleavings.proofs.Happening.{turned, happens_read, happens_compute, happens_abandon}
use Rattle.casa_interleavings.proofs.worker.act.Goals as goal

pub returns-in_ok-read-in-Read-clause-happens : goal.returns-in_ok-read-in-Read-clause-happens
returns-in_ok-read-in-Read-clause-happens g c m history stands =
    let reply = reply_after g.W.World in
    let is_unmoved = g.W.Stamped.is_unmoved in
    let Stands = IsRoomWorker g.W.World g.W.Stamped c.args.room.now c.read.new.desk in
    let e = c.args.event.now in
    let call = c.in-Read.call in
    let x = m.workers (worker_of e) in
    let few = subst (λ (n : ℕ). n < most_workers) c.requires.sits c.requires.few in
    turned reply is_unmoved Stands e (read call m.history x.hand) m history
    (happens_read reply is_unmoved m c.in-Read.is few)
    (subst (λ es. Stands (with_hand (read call es x.hand) x)) (sym history) (c.in_ok-read-in-Read.ensures.stands x stands))

pub returns-in_ok-compute-in-Compute-clause-happens : goal.returns-in_ok-compute-in-Compute-clause-happens
returns-in_ok-compute-in-Compute-clause-happens g c m history stands =
    let reply = reply_after g.W.World in
    let is_unmoved = g.W.Stamped.is_unmoved in
    let e = c.args.event.now in
    let x = m.workers (worker_of e) in
    let Stands = IsRoomWorker g.W.World g.W.Stamped c.args.room.now c.compute.new.desk in
    turned reply is_unmoved Stands e (compute x.hand) m history
    (happens_compute reply is_unmoved m c.in-Compute.is) (c.in_ok-compute-in-Compute.ensures.stands x stands)

pub returns-in-Abandon-clause-happens : goal.returns-in-Abandon-clause-happens
returns-in-Abandon-clause-happens g c m history stands =
    let reply = reply_after g.W.World in
    let is_unmoved = g.W.Stamped.is_unmoved in
    let e = c.args.event.now in
    let Stands = IsRoomWorker g.W.World g.W.Stamped c.args.room.now c.abandon.new.desk in
    turned reply is_unmoved Stands e nothing m history
    (happens_abandon reply is_unmoved m c.in-Abandon.is) (c.abandon.ensures.stands (m.workers (worker_of e)) stands)
