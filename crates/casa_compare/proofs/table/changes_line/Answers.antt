use Rattle.std.proofs.Common.{◌∙◌, ℕ, List, [], ◌∷◌, ◌++◌, Option, ap}
use Rattle.std.specs.Prelude.{codes}
use Rattle.casa_inquiry.specs.Summary.{mean_delay}
use Rattle.casa_report.specs.Columns.{left, right}
use Rattle.casa_report.proofs.Joined.{joined, one_column}
use Rattle.casa_compare.specs.Changes.{change_or_hyphen, change_text}
use Rattle.casa_compare.proofs.table.changes_line.Goals as goal

pub returns : goal.returns
returns c =
    let base = c.args.base.now in
    let variant = c.args.variant.now in
    let from = base.cost in
    let to = variant.cost in
    let day = left 10 (codes "difference") in
    let regulations = right 4 (change_text base.regulations variant.regulations) in
    let slots = right 5 (change_text from.slots to.slots) in
    let governed = right 8 (change_text from.governed to.governed) in
    let issued = right 6 (change_text from.issued to.issued) in
    let forced = right 6 (change_text from.forced to.forced) in
    let over = right 4 (change_text from.over to.over) in
    let delay = right 8 (change_text from.delay to.delay) in
    let mean = right 5 (change_or_hyphen (mean_delay from) (mean_delay to)) in
    let longest = right 7 (change_text from.longest to.longest) in
    let one = one_column day c.push_left.ensures.text c.new-line.ensures in
    let two = one_column regulations c.push_change.ensures.text one in
    let three = one_column slots c.push_change-2.ensures.text two in
    let four = one_column governed c.push_change-3.ensures.text three in
    let five = one_column issued c.push_change-4.ensures.text four in
    let six = one_column forced c.push_change-5.ensures.text five in
    let seven = one_column over c.push_change-6.ensures.text six in
    let eight = one_column delay c.push_change-7.ensures.text seven in
    let text : List ℕ = c.push_change-7.new.line.items in
    let nine = one_column mean
    (c.push_change_or_hyphen.ensures.text
    ∙ ap (λ (n : Option ℕ). text ++ (right 5 (change_or_hyphen n c.mean-2.result) ++ 32 ∷ [])) c.mean.ensures
    ∙ ap (λ (n : Option ℕ). text ++ (right 5 (change_or_hyphen (mean_delay from) n) ++ 32 ∷ [])) c.mean-2.ensures) eight in
    c.push_change-8.ensures.text ∙ ap (λ (line : List ℕ). line ++ (longest ++ 10 ∷ [])) nine
    ∙ joined [] (day ∷ regulations ∷ slots ∷ governed ∷ issued ∷ forced ∷ over ∷ delay ∷ mean ∷ []) longest
