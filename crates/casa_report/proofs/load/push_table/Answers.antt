use Rattle.std.proofs.Common.{◌≡◌, ◌∙◌, ℕ, ◌+◌, ◌<◌, List, ◌++◌, sym, ap, subst, drop, length, get_or}
use Rattle.std.specs.List.{flat_map}
use Rattle.casa_inquiry.specs.declared.load.Step.{Step}
use Rattle.casa_report.specs.LoadTable.{IsShort, each_of, load_table, step_lines, sums_line}
use Rattle.casa_report.proofs.Bars.{all_short}
use Rattle.casa_report.proofs.Lines.{next_line_before}
use Rattle.casa_report.proofs.load.push_table.Goals as goal

pub step_lines-requires-clause-short : goal.step_lines-requires-clause-short
step_lines-requires-clause-short c =
    let steps = c.args.load.now.steps.items in
    let all : c.as_slice-steps.result.now ≡ steps = c.as_slice-steps.ensures.value in
    let each : c.each_of-each.result ≡ each_of steps = c.each_of-each.ensures ∙ ap each_of all in
    let here : c.steps.step-index < length steps = subst (λ (ss : List Step). c.steps.step-index < length ss) all c.steps-test.true in
    let is : c.step-item.result ≡ get_or steps c.steps.step-index c.step-item.result = subst (λ (ss : List Step). c.step-item.result ≡ get_or ss c.steps.step-index c.step-item.result) all c.step-item.is in
    subst (λ (n : ℕ). IsShort n c.step-item.result) (sym each) (all_short steps c.steps.step-index c.step-item.result here is)

pub steps-preserved : goal.steps-preserved
steps-preserved c =
    let load = c.args.load.now in
    let steps = load.steps.items in
    let i = c.steps.step-index in
    let step = c.step-item.result in
    let text = c.steps.text.items in
    let sums = sums_line load.flights load.slots in
    let all : c.as_slice-steps.result.now ≡ steps = c.as_slice-steps.ensures.value in
    let each : c.each_of-each.result ≡ each_of steps = c.each_of-each.ensures ∙ ap each_of all in
    let here : i < length steps = subst (λ (ss : List Step). i < length ss) all c.steps-test.true in
    let is : step ≡ get_or steps i step = subst (λ (ss : List Step). step ≡ get_or ss i step) all c.step-item.is in
    let lines = c.as_slice-in-steps.ensures.value ∙ (c.step_lines.ensures ∙ ap (λ (n : ℕ). step_lines n step) each) in
    ap (λ t. t ++ (flat_map (step_lines (each_of steps)) (drop (i + 1) steps) ++ sums)) (c.in_ok-extend_from_slice-2.ensures.items ∙ ap (λ t. text ++ t) lines)
    ∙ next_line_before (step_lines (each_of steps)) steps i step text sums (c.args.text.now.items ++ load_table steps load.flights load.slots) here is c.steps.invariant
