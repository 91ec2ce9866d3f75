use Rattle.std.proofs.Common.{◌≡◌, ◌∙◌, ◌++◌, [], ◌∷◌, ◌*◌, ℕ, List, ap, sym, map, max, arith}
use Rattle.std.specs.List.{range_with_len}
use Rattle.std.proofs.lemmas.List.{map-append}
use Rattle.std.specs.Prelude.{None}
use Rattle.casa_grid.specs.Profile.{end_of}
use Rattle.casa_inquiry.specs.declared.load.Step.{Step}
use Rattle.casa_inquiry.specs.Load.{begins, span_after, span_at, step, step_count, step_secs}
use Rattle.casa_inquiry.proofs.Steps.{one_more}
use Rattle.casa_inquiry.proofs.load.Load.of.Goals as goal

pub steps-preserved : goal.steps-preserved
steps-preserved c =
    let at = span_at c.profile-profile.result.now (c.max.result * 60) in
    let f = step (begins c.args.grid.now) c.args.rows.now in
    let here : c.count_step.result ≡ f (at c.steps.k) =
    c.count_step.ensures ∙ (ap (λ (b : List ℕ). step b c.args.rows.now c.span_at.result) (c.deref.ensures.value ∙ c.in_ok-begins.ensures) ∙ ap f c.span_at.ensures) in
    c.in_ok-push.ensures.items ∙ (ap (λ (s : Step). c.steps.steps.items ++ s ∷ []) here ∙ (ap (λ (ss : List Step). ss ++ f (at c.steps.k) ∷ []) c.steps.invariant ∙ sym (one_more f at c.steps.k)))

pub returns-clause-steps : goal.returns-clause-steps
returns-clause-steps c =
    let secs = step_secs c.args.minutes in
    let count = step_count c.args.grid.now secs in
    let at = span_at c.args.grid.now secs in
    let f = step (begins c.args.grid.now) c.args.rows.now in
    let profile : c.profile-profile.result.now ≡ c.args.grid.now = c.profile-profile.ensures in
    let longest : c.max.result ≡ max c.args.minutes 1 = c.max.ensures in
    let until : c.step_count-count.result ≡ count = rw (profile, longest) at c.step_count-count.ensures.count in
    let all : c.steps.k ≡ count = omega (arith, until, c.steps-test.false, c.steps.auto.k-end) in
    let last : c.count_step-2.result ≡ f (span_after c.args.grid.now) =
    c.count_step-2.ensures ∙ (ap (λ (b : List ℕ). step b c.args.rows.now (record { from = c.span-start.result.1; until = None })) (c.deref-2.ensures.value ∙ c.in_ok-begins.ensures)
    ∙ ap (λ (from : ℕ). f (record { from = from; until = None })) (ap (λ p. p.1) c.span-start.ensures ∙ ap end_of profile)) in
    let before : c.steps.steps.items ≡ map f (map at (range_with_len 0 count)) = rw (profile, longest, all) at c.steps.invariant in
    c.in_ok-push-2.ensures.items ∙ (ap (λ (s : Step). c.steps.steps.items ++ s ∷ []) last ∙ (ap (λ (ss : List Step). ss ++ f (span_after c.args.grid.now) ∷ []) before ∙ sym (map-append f (map at (range_with_len 0 count)) (span_after c.args.grid.now ∷ []))))
