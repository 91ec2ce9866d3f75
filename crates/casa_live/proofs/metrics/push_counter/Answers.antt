use Rattle.std.proofs.Common.{ℕ, List, ◌++◌, ◌∙◌, ap, append_assoc, codes}
use Rattle.std.proofs.lemmas.List.{take_all}
use Rattle.std.specs.List.{flat_map}
use Rattle.casa_filing.specs.Text.{Text}
use Rattle.casa_live.specs.Metrics.{command_sample, commands, heading}
use Rattle.casa_live.proofs.Written.{sample_behind}
use Rattle.casa_live.proofs.metrics.push_counter.Goals as goal

pub loop-number-preserved : goal.loop-number-preserved
loop-number-preserved c = λ value are.
    sample_behind c.args.name.now value c.args.counts.now c.loop-number.number
    (c.args.out.now.items ++ heading c.args.name.now (codes "counter") c.args.help.now) c.loop-number.out.items _ are c.loop-number-test.true
    (c.loop-number.invariant value are) (rw (← c.command.ensures) c.in_ok-push_command_sample.ensures)

pub returns : goal.returns
returns c = λ value are.
    let top : List ℕ = heading c.args.name.now (codes "counter") c.args.help.now in
    c.loop-number.invariant value are
    ∙ ap (λ (names : List Text). (c.args.out.now.items ++ top) ++ flat_map (command_sample c.args.name.now value) names) (take_all c.loop-number.number commands c.loop-number-test.false)
    ∙ append_assoc c.args.out.now.items top (flat_map (command_sample c.args.name.now value) commands)
