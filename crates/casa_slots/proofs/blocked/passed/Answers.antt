use Rattle.std.proofs.Common.{◌≡◌, ◌∙◌, ◌<◌, drop, get_or, ap, sym, subst, arith}
use Rattle.casa_slots.specs.Sparse.{passed, AreBlocked}
use Rattle.casa_slots.proofs.Sparse.{passed_drop, blocked_drop, own_get, stop_at, go_on, blocked_on, under_end}
use Rattle.casa_slots.proofs.blocked.passed.Goals as goal

pub loop-i-init : goal.loop-i-init
loop-i-init c =
    let es = c.args.blocks.now in
    let k = c.args.slot in (
      ap (λ i. passed (drop i es) k) c.count_before-from.ensures.value ∙ passed_drop es k,
      subst (λ i. AreBlocked k c.args.slots (drop i es)) (sym c.count_before-from.ensures.value) (blocked_drop 0 c.args.slots es k c.requires),
    )

pub returns-then-blocks-i : goal.returns-then-blocks-i
returns-then-blocks-i c =
    let es = c.args.blocks.now in
    let i = c.loop-i.i in
    stop_at c.args.slots c.loop-i.clear i es (get_or es i (0, 0)) c.loop-i-test.true (own_get es i (0, 0) c.loop-i-test.true) c.loop-i.invariant.1 c.if-blocks-i.true
    ∙ c.loop-i.invariant.0

pub overflow_add-clear : goal.overflow_add-clear
overflow_add-clear c =
    let es = c.args.blocks.now in
    let i = c.loop-i.i in
    let under : (get_or es i (0, 0)).0 < c.args.slots =
    under_end c.args.slots c.loop-i.clear i es (get_or es i (0, 0)) c.loop-i-test.true (own_get es i (0, 0) c.loop-i-test.true) c.loop-i.invariant.1 in
    let same : (get_or es i (0, 0)).0 ≡ c.loop-i.clear = c.if-blocks-i.false in
    let fits = c.ranges.slots.fits in
    omega (arith, under, same, fits)

pub loop-i-preserved : goal.loop-i-preserved
loop-i-preserved c =
    let es = c.args.blocks.now in
    let i = c.loop-i.i in
    let own = own_get es i (0, 0) c.loop-i-test.true in (
      go_on c.args.slots c.loop-i.clear i es (get_or es i (0, 0)) c.loop-i-test.true own c.loop-i.invariant.1 c.if-blocks-i.false ∙ c.loop-i.invariant.0,
      blocked_on c.args.slots c.loop-i.clear i es (get_or es i (0, 0)) c.loop-i-test.true own c.loop-i.invariant.1 c.if-blocks-i.false,
    )
