use Rattle.std.proofs.Common.{ℕ, ◌∙◌}
use Rattle.std.proofs.lemmas.List.{length-map}
use Rattle.casa_grid.specs.declared.slot.Window.{Window}
use Rattle.casa_grid.specs.Slots.{slots}
use Rattle.casa_flight.specs.declared.reply.ListRow.{ListRow}
use Rattle.casa_inquiry.specs.declared.load.Step.{Step}
use Rattle.casa_inquiry.specs.Load.{begins, spans, step}
use Rattle.casa_inquiry.proofs.EachOnce.{begins_late, each_once, sum_mapped}
use Rattle.casa_inquiry.proofs.load.steps_have_each_once.Goals as goal

pub returns : goal.returns
returns c = record {
  planned = λ ps rows minutes late. sum_mapped (λ (s : Step). s.planned) (step (begins ps) rows) (spans ps minutes) ∙ each_once (λ (row : ListRow). row.eto) rows ps minutes late;
  calculated = λ ps rows minutes late. sum_mapped (λ (s : Step). s.calculated) (step (begins ps) rows) (spans ps minutes) ∙ each_once (λ (row : ListRow). row.cto) rows ps minutes late;
  slots = λ ps rows minutes profile. sum_mapped (λ (s : Step). s.slots) (step (begins ps) rows) (spans ps minutes)
      ∙ each_once (λ (t : ℕ). t) (begins ps) ps minutes (begins_late ps profile) ∙ length-map (slots ps) (λ (w : Window). w.begin);
}
