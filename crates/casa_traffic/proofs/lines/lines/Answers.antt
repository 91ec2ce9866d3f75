use Rattle.std.proofs.Common.{◌∙◌, ◌++◌, map, ap, subst}
use Rattle.std.specs.List.{All, flat_map}
use Rattle.std.proofs.lemmas.List.Elements.{All-append, All-map}
use Rattle.casa_traffic.specs.Calls.{file_call, open_call}
use Rattle.casa_traffic.specs.Lines.{IsReadAgain, line}
use Rattle.casa_traffic.proofs.Joined.{joined}
use Rattle.casa_traffic.proofs.lines.lines.Goals as goal

pub returns-clause-written : goal.returns-clause-written
returns-clause-written c =
    let os = c.args.made.now.regulations.openings.items in
    let plans = c.args.made.now.filings.plans.items in
    let first =
    c.in_ok-push_openings.ensures.written
    ∙ ap (λ xs. c.new-text.result.items ++ flat_map (λ o. line (open_call o)) xs) c.deref.ensures.value
    ∙ ap (λ t. t ++ flat_map (λ o. line (open_call o)) os) c.new-text.ensures.items in
    c.in_ok-push_filings.ensures.written
    ∙ ap (λ xs. c.push_openings.new.text.items ++ flat_map (λ p. line (file_call p)) xs) c.deref-2.ensures.value
    ∙ ap (λ t. t ++ flat_map (λ p. line (file_call p)) plans) first
    ∙ joined os plans

pub returns-clause-again : goal.returns-clause-again
returns-clause-again c =
    let os = c.args.made.now.regulations.openings.items in
    let plans = c.args.made.now.filings.plans.items in
    All-append IsReadAgain (map open_call os) (map file_call plans)
    (All-map IsReadAgain open_call os (subst (All (λ o. IsReadAgain (open_call o))) c.deref.ensures.value c.in_ok-push_openings.ensures.again))
    (All-map IsReadAgain file_call plans (subst (All (λ p. IsReadAgain (file_call p))) c.deref-2.ensures.value c.in_ok-push_filings.ensures.again))
