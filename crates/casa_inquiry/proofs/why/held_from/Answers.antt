use Rattle.std.proofs.Common.{◌≡◌, ◌∙◌, ◌+◌, ◌++◌, ap, sym, subst, List, Vec, length, drop, take, arith}
use Rattle.std.specs.declared.alloc.Global.{Global}
use Rattle.casa_inquiry.specs.declared.why.Holding.{Holding}
use Rattle.casa_inquiry.specs.Why.{AreHeld, held_by, held_in}
use Rattle.casa_inquiry.proofs.Held.{AreHeldSoFar, one_more_held, whole}
use Rattle.casa_inquiry.proofs.why.held_from.Goals as goal

pub loop-member-preserved : goal.loop-member-preserved
loop-member-preserved c =
    let old : c.deref_mut.result.now ≡ c.loop-member.rows.items = c.deref_mut.ensures.value in
    let long : length c.put_down.new.rows ≡ length c.loop-member.rows.items = c.put_down.auto.rows ∙ ap length old in
    let new : take c.loop-member.rows.len (c.put_down.new.rows ++ drop (length c.put_down.new.rows) c.loop-member.rows.items) ≡ c.put_down.new.rows =
    whole c.loop-member.rows.len c.loop-member.rows.items c.put_down.new.rows long (sym c.deref_mut.ensures.len ∙ ap length old) in
    let flights = c.flights-member-items.result.now in
    let held : AreHeld c.args.list.now c.args.from (take (c.loop-member.member-index + 1) flights) c.put_down.new.rows = λ k lt.
    one_more_held (held_by c.args.list.now (c.args.from + k)) flights c.loop-member.member-index c.member-item.result (held_in c.deref_mut.result.now k) (held_in c.put_down.new.rows k) c.loop-member-test.true c.member-item.is
    (ap (λ rows. held_in rows k) old ∙ c.loop-member.invariant.held k (omega arith)) (c.in_ok-put_down.ensures k (omega arith)) in
    let So : List (Vec Holding Global) → Type 0 = λ rows. AreHeldSoFar c.args.list.now c.args.from c.args.until (take (c.loop-member.member-index + 1) flights) rows in
    subst So (sym new) (record { number = long ∙ c.loop-member.invariant.number; held = held })
