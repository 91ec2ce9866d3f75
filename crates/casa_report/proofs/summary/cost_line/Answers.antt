use Rattle.std.proofs.Common.{◌∙◌, ℕ, List, [], ◌∷◌, ◌++◌, Option, ap, decimal}
use Rattle.casa_inquiry.specs.Summary.{mean_delay}
use Rattle.casa_report.specs.Columns.{left, number_text, right}
use Rattle.casa_report.proofs.Joined.{joined, one_column}
use Rattle.casa_report.proofs.summary.cost_line.Goals as goal

pub returns : goal.returns
returns c =
    let cost = c.args.cost.now in
    let reg = left 10 c.args.reg.now in
    let loc = left 10 c.args.loc.now in
    let start = left 4 c.args.start.now in
    let end = left 4 c.args.end.now in
    let slots = right 5 (decimal cost.slots) in
    let governed = right 8 (decimal cost.governed) in
    let issued = right 6 (decimal cost.issued) in
    let forced = right 6 (decimal cost.forced) in
    let over = right 4 (decimal cost.over) in
    let delay = right 8 (decimal cost.delay) in
    let mean = right 5 (number_text (mean_delay cost)) in
    let longest = right 7 (decimal cost.longest) in
    let one = one_column reg c.push_left.ensures.text c.new-line.ensures in
    let two = one_column loc c.push_left-2.ensures.text one in
    let three = one_column start c.push_left-3.ensures.text two in
    let four = one_column end c.push_left-4.ensures.text three in
    let five = one_column slots c.push_number.ensures.text four in
    let six = one_column governed c.push_number-2.ensures.text five in
    let seven = one_column issued c.push_number-3.ensures.text six in
    let eight = one_column forced c.push_number-4.ensures.text seven in
    let nine = one_column over c.push_number-5.ensures.text eight in
    let ten = one_column delay c.push_number-6.ensures.text nine in
    let text : List ℕ = c.push_number-6.new.line.items in
    let eleven = one_column mean
    (c.push_number_or_hyphen.ensures.text ∙ ap (λ (n : Option ℕ). text ++ (right 5 (number_text n) ++ 32 ∷ [])) c.mean.ensures) ten in
    c.push_number-7.ensures.text ∙ ap (λ (line : List ℕ). line ++ (longest ++ 10 ∷ [])) eleven
    ∙ joined [] (reg ∷ loc ∷ start ∷ end ∷ slots ∷ governed ∷ issued ∷ forced ∷ over ∷ delay ∷ mean ∷ []) longest
