use Rattle.std.proofs.Common.{◌∙◌, List, [], take, ap, sym}
use Rattle.std.proofs.lemmas.List.Sums.{fold_more}
use Rattle.casa_filing.specs.Text.{Text}
use Rattle.casa_import.specs.declared.periods.RegulationPeriod.{RegulationPeriod}
use Rattle.casa_import.specs.Regulations.{and_reg, regs_of}
use Rattle.casa_import.proofs.regulations.regs_of.Goals as goal

pub loop-period-preserved : goal.loop-period-preserved
loop-period-preserved c =
    let item = c.period-item.result in
    let before = regs_of (take c.loop-period.period-index c.args.periods.now) in
    let more = fold_more (λ (regs : List Text) (p : RegulationPeriod). and_reg regs p.reg) [] c.args.periods.now c.loop-period.period-index item c.loop-period-test.true in
    c.in_ok-push_reg.ensures ∙ ap (λ regs. and_reg regs item.reg) c.loop-period.invariant
    ∙ ap (λ (p : RegulationPeriod). and_reg before p.reg) c.period-item.is ∙ sym more
