use Rattle.std.proofs.Common.{◌≡◌, length, map, refl, sym, ap, ◌∙◌, arith}
use Rattle.std.proofs.lemmas.Bool.Decides.{nat_tests}
use Rattle.casa_history.specs.Entries.{entries}
use Rattle.casa_history.specs.Settlement.{passes_of}
use Rattle.casa_history.proofs.Settling.{settled_by_sole, sole_of_settled}
use Rattle.casa_history.proofs.settlement.is_settled.Goals as goal

pub returns-then-count_passes-eq1 : goal.returns-then-count_passes-eq1
returns-then-count_passes-eq1 g c =
    let p = c.args.pass.now in
    let es = entries c.args.history.now in
    let ps = map g.P.Holds.held c.args.passes.now in
    let one : length (passes_of p.desk ps) ≡ 1 =
    ap (λ k. length (passes_of k ps)) (sym c.desk.ensures)
    ∙ sym c.count_passes.ensures ∙ c.if-count_passes-eq1.true in (
      λ yes. settled_by_sole p.desk es ps p c.requires.among refl one (c.are_receipts.ensures.0 yes),
      λ settled. c.are_receipts.ensures.1 (sole_of_settled p.desk es ps p c.requires.among refl settled).1,
    )

pub returns-else-count_passes-eq1 : goal.returns-else-count_passes-eq1
returns-else-count_passes-eq1 g c =
    let p = c.args.pass.now in
    let es = entries c.args.history.now in
    let ps = map g.P.Holds.held c.args.passes.now in
    let count : c.count_passes.result ≡ length (passes_of p.desk ps) =
    c.count_passes.ensures ∙ ap (λ k. length (passes_of k ps)) c.desk.ensures in (
      λ one. absurd (c.if-count_passes-eq1.false (grind (arith, nat_tests))),
      λ settled. absurd (c.if-count_passes-eq1.false
          (count ∙ (sole_of_settled p.desk es ps p c.requires.among refl settled).0)),
    )
