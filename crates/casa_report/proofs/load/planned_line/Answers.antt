use Rattle.std.proofs.Common.{◌∙◌, ℕ, List, [], ◌∷◌, ◌++◌, ap, decimal}
use Rattle.std.specs.Int.{div_ceil}
use Rattle.casa_time.specs.Hhmm.{hhmm}
use Rattle.casa_report.specs.Columns.{left, right}
use Rattle.casa_report.specs.LoadTable.{bar, bar_of, time_text}
use Rattle.casa_report.proofs.Joined.{joined, one_column}
use Rattle.casa_report.proofs.load.planned_line.Goals as goal

pub returns-clause-text : goal.returns-clause-text
returns-clause-text c =
    let s = c.args.step.now in
    let from = left 4 (hhmm s.span.from) in
    let until = left 4 (time_text s.span.until) in
    let planned = right 7 (decimal s.planned) in
    let slots = right 5 (decimal s.slots) in
    let calculated = right 10 (decimal s.calculated) in
    let none : List ℕ = c.new-line.result.items in
    let one = one_column from (c.push_time.ensures.text ∙ ap (λ (n : ℕ). none ++ (left 4 (hhmm n) ++ 32 ∷ [])) c.secs.ensures.value) c.new-line.ensures in
    let two = one_column until c.push_until.ensures.text one in
    let three = one_column planned c.push_number.ensures.text two in
    let four = one_column slots c.push_number-2.ensures.text three in
    let five = one_column calculated c.push_number-3.ensures.text four in
    let line : List ℕ = c.push_number-3.new.line.items in
    c.push_bar.ensures.text
    ∙ ap (λ (n : ℕ). line ++ (bar 111 n c.length_of-mark.result ++ 10 ∷ [])) c.length_of-long.ensures.value
    ∙ ap (λ (n : ℕ). line ++ (bar 111 (div_ceil s.planned c.args.each) n ++ 10 ∷ [])) c.length_of-mark.ensures.value
    ∙ ap (λ (l : List ℕ). l ++ (bar_of c.args.each 111 s.planned s.slots ++ 10 ∷ [])) five
    ∙ joined [] (from ∷ until ∷ planned ∷ slots ∷ calculated ∷ []) (bar_of c.args.each 111 s.planned s.slots)
