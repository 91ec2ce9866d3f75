use Rattle.std.proofs.Common.{◌∙◌}
use Rattle.casa_live.specs.Metrics.{calls_in, refusals_in}
use Rattle.casa_live.proofs.Written.{metrics_written}
use Rattle.casa_live.proofs.metrics.metrics_text.Goals as goal

pub returns : goal.returns
returns c = λ history is clock.
    metrics_written history c.args.reading c.args.tally.now.position _ c.in_ok-text.text.items c.push_counter.new.out.items c.push_counter-2.new.out.items
    c.push_gauge.new.out.items c.push_gauge-2.new.out.items c.push_gauge-3.new.out.items c.push_gauge-4.new.out.items
    is.position (c.secs.ensures.value ∙ clock) c.in_ok-text.ensures.items
    (c.in_ok-push_counter.ensures (calls_in history) is.calls) (c.in_ok-push_counter-2.ensures (refusals_in history) is.refusals)
    c.in_ok-push_gauge.ensures c.in_ok-push_gauge-2.ensures c.in_ok-push_gauge-3.ensures c.in_ok-push_gauge-4.ensures
