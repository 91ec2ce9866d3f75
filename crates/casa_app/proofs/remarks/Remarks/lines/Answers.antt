use Rattle.std.proofs.Common.{◌≡◌, ◌≤◌, ◌-◌, ◌∙◌, ◌++◌, Bool, false, List, ℕ, drop, length, take, sym, subst, ap}
use Rattle.std.proofs.lemmas.List.{take_rest}
use Rattle.std.specs.Prelude.{codes}
use Rattle.std.specs.List.{flat_map}
use Rattle.casa_session.specs.Lines.{ended_lines}
use Rattle.casa_app.proofs.Marked.{marked_length, marked_lines, unmarked_lines}
use Rattle.casa_app.specs.Remarks.{remark_line, remarks_from}
use Rattle.casa_app.proofs.remarks.Remarks.lines.Goals.{else-marked-via-then-marked+else-self, else-marked-via-else-marked}
use Rattle.casa_app.proofs.remarks.Remarks.lines.Goals as goal

pub slice_bounds-push_text-count : goal.slice_bounds-push_text-count
slice_bounds-push_text-count c =
    let noted = c.args.self.now.noted in
    subst (λ (l : List ℕ). 22 ≤ length l) (sym (c.as_slice-lines.ensures.value ∙ noted.text_is))
    (marked_length (ended_lines c.args.self.now.trail.bytes) (sym noted.first_is ∙ c.if-self.true))

pub slice_bounds-push_text-start : goal.slice_bounds-push_text-start
slice_bounds-push_text-start c =
    let noted = c.args.self.now.noted in
    subst (λ (l : List ℕ). 22 ≤ length l) (sym (c.as_slice-lines.ensures.value ∙ noted.text_is))
    (marked_length (ended_lines c.args.self.now.trail.bytes) (sym noted.first_is ∙ c.if-self.true))

pub returns-then-self-clause-lines : goal.returns-then-self-clause-lines
returns-then-self-clause-lines c =
    let noted = c.args.self.now.noted in
    let rs = ended_lines c.args.self.now.trail.bytes in
    let lines = c.as_slice-lines.result.now in
    let first = c.push_text.ensures.text ∙ ap (λ (l : List ℕ). l ++ codes "casa: line 1: NotJson (a byte order mark stands before it)\n") c.new-text.ensures in
    let second = take_rest lines 22 ∙ ap (drop 22) (c.as_slice-lines.ensures.value ∙ noted.text_is) in
    c.push_text-then-self.ensures.text ∙ ap (λ (l : List ℕ). l ++ take (length lines - 22) (drop 22 lines)) first
    ∙ ap (λ (l : List ℕ). codes "casa: line 1: NotJson (a byte order mark stands before it)\n" ++ l) second
    ∙ sym (marked_lines rs (sym noted.first_is ∙ c.if-self.true)) ∙ ap (λ b. flat_map (remark_line b) (take 10 (remarks_from 0 rs))) (sym c.if-marked.true)

pub returns-clause-lines : goal.returns-clause-lines
returns-clause-lines c =
    let noted = c.args.self.now.noted in
    let rs = ended_lines c.args.self.now.trail.bytes in
    let lines : Bool → List ℕ = λ b. flat_map (remark_line b) (take 10 (remarks_from 0 rs)) in
    let same : lines c.args.marked ≡ lines false = elim c.else-marked.branch as (λ _. lines c.args.marked ≡ lines false) [
      | else-marked-via-then-marked+else-self w ↦ ap lines w.if-marked.true ∙ unmarked_lines rs (sym noted.first_is ∙ w.if-self.false)
      | else-marked-via-else-marked w ↦ ap lines w.if-marked.false
    ] in
    c.push_text-2.ensures.text ∙ ap (λ (l : List ℕ). l ++ c.as_slice-lines.result.now) c.new-text.ensures ∙ c.as_slice-lines.ensures.value ∙ noted.text_is ∙ sym same
