use Rattle.std.proofs.Common.{◌∙◌, ℕ, List, [], ◌∷◌, ◌++◌, ap}
use Rattle.casa_report.specs.Columns.{left, number_text, right}
use Rattle.casa_report.specs.LoadTable.{time_text}
use Rattle.casa_report.specs.WhyText.{name_text}
use Rattle.casa_compare.specs.CompareTable.{standing_columns}
use Rattle.casa_compare.specs.Shown.{ctot_in, delay_in, reg_in}
use Rattle.casa_compare.proofs.Texts.{flight_written}
use Rattle.casa_compare.proofs.table.flight_line.Goals as goal

pub returns : goal.returns
returns c =
    let flight = c.args.flight.now in
    let key : List ℕ = left 10 flight.key ++ 32 ∷ [] in
    let named = c.push_name.ensures.text ∙ ap (λ (line : List ℕ). line ++ key) c.new-line.ensures in
    let based = c.push_standing.ensures.text ∙ ap (λ (line : List ℕ). line ++ standing_columns flight.base 32) named in
    c.push_standing-2.ensures.text ∙ ap (λ (line : List ℕ). line ++ standing_columns flight.variant 10) based
    ∙ flight_written (left 10 flight.key) (left 10 (name_text (reg_in flight.base))) (left 4 (time_text (ctot_in flight.base))) (right 6 (number_text (delay_in flight.base)))
    (left 10 (name_text (reg_in flight.variant))) (left 4 (time_text (ctot_in flight.variant))) (right 6 (number_text (delay_in flight.variant)))
