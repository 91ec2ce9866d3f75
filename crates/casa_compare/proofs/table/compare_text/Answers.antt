use Rattle.std.proofs.Common.{◌∙◌, [], ◌++◌, ap}
use Rattle.casa_wire.proofs.Behind.{both}
use Rattle.casa_report.specs.WhyText.{section}
use Rattle.casa_compare.specs.CompareTable.{flight_columns}
use Rattle.casa_compare.proofs.table.compare_text.Goals as goal

pub returns : goal.returns
returns c =
    let headed = c.extend_from_slice.new.self.items in
    let told = c.push_totals.new.text.items in
    let end = c.push_flights.new.text.items in
    both [] headed end _ _ (c.in_ok-extend_from_slice.ensures.items ∙ ap (λ t. t ++ c.as_bytes.result.now) c.new-text.ensures.items ∙ c.as_bytes.ensures.value ∙ c.in_ok-heading.ensures)
    (both headed told end _ _ c.in_ok-push_totals.ensures
    (c.in_ok-push_flights.ensures ∙ ap (λ fs. told ++ section flight_columns fs) c.as_slice.ensures))
