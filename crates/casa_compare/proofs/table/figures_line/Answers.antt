use Rattle.std.proofs.Common.{◌∙◌, ℕ, List, [], ◌∷◌, ◌++◌, Option, ap, decimal}
use Rattle.casa_inquiry.specs.Summary.{mean_delay}
use Rattle.casa_report.specs.Columns.{left, number_text, right}
use Rattle.casa_report.proofs.Joined.{joined, one_column}
use Rattle.casa_compare.proofs.table.figures_line.Goals as goal

pub returns : goal.returns
returns c =
    let totals = c.args.totals.now in
    let cost = totals.cost in
    let day = left 10 c.args.day.now in
    let regulations = right 4 (decimal totals.regulations) in
    let slots = right 5 (decimal cost.slots) in
    let governed = right 8 (decimal cost.governed) in
    let issued = right 6 (decimal cost.issued) in
    let forced = right 6 (decimal cost.forced) in
    let over = right 4 (decimal cost.over) in
    let delay = right 8 (decimal cost.delay) in
    let mean = right 5 (number_text (mean_delay cost)) in
    let longest = right 7 (decimal cost.longest) in
    let one = one_column day c.push_left.ensures.text c.new-line.ensures in
    let two = one_column regulations c.push_number.ensures.text one in
    let three = one_column slots c.push_number-2.ensures.text two in
    let four = one_column governed c.push_number-3.ensures.text three in
    let five = one_column issued c.push_number-4.ensures.text four in
    let six = one_column forced c.push_number-5.ensures.text five in
    let seven = one_column over c.push_number-6.ensures.text six in
    let eight = one_column delay c.push_number-7.ensures.text seven in
    let text : List ℕ = c.push_number-7.new.line.items in
    let nine = one_column mean
    (c.push_number_or_hyphen.ensures.text ∙ ap (λ (n : Option ℕ). text ++ (right 5 (number_text n) ++ 32 ∷ [])) c.mean.ensures) eight in
    c.push_number-8.ensures.text ∙ ap (λ (line : List ℕ). line ++ (longest ++ 10 ∷ [])) nine
    ∙ joined [] (day ∷ regulations ∷ slots ∷ governed ∷ issued ∷ forced ∷ over ∷ delay ∷ mean ∷ []) longest
