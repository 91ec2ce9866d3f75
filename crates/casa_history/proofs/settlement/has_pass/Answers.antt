use Rattle.std.proofs.Common.{◌≡◌, map, Contains, rules, ap, sym, ◌∙◌}
use Rattle.casa_history.specs.declared.pass.Pass.{Pass}
use Rattle.casa_history.proofs.Settling.{passes_of_some, contains_mapped}
use Rattle.casa_history.proofs.settlement.has_pass.Goals as goal

pub returns-then-desk : goal.returns-then-desk
returns-then-desk g c =
    let held = g.P.Holds.held in
    let passes = c.args.passes.now in
    let h = c.holder-item.result in
    let among : Contains (map held passes) (held h) =
    contains_mapped held passes c.loop-holder.holder-index h c.loop-holder-test.true c.holder-item.is in
    let of : (held h).desk ≡ c.args.desk =
    ap (λ (p : Pass g.row.C.Denot g.row.R.Denot). p.desk) (sym c.pass.ensures)
    ∙ sym c.desk.ensures ∙ c.if-desk.true in (
      λ yes none. passes_of_some c.args.desk (map held passes) (held h) among of none,
      λ some. search (rules),
    )
