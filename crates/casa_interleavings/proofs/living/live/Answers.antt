use Rattle.std.proofs.Common.{subst}
use Rattle.casa_interleavings.specs.Runs.{run_history}
use Rattle.casa_interleavings.specs.Lives.{HasGoneOn}
use Rattle.casa_interleavings.proofs.Lasting.{is_life}
use Rattle.casa_interleavings.proofs.Legal.{legal, sequential_run}
use Rattle.casa_interleavings.proofs.living.live.Goals as goal

pub returns-clause-lived : goal.returns-clause-lived
returns-clause-lived g c xs held =
    let opened = c.in_ok-run.ensures.opened xs held in
    let first = run_history c.in_ok-run.run' in
    let opening = c.in_ok-run.journal in
    let journal = c.go_on.result.1 in
    let w = subst (λ deeds. HasGoneOn g.S.Script g.T.Tape first (record { deeds = deeds; journal = opening })
    c.args.events.now c.go_on.result.0 journal) opened.events c.go_on.ensures in
    record {
      first = first;
      said = opened.said;
      opening = opening;
      settled = opened.settled;
      begun = opened.begun;
      running = c.in_ok-run.ensures.running.journaled;
      any_moment = c.in_ok-run.ensures.any_moment;
      went_on = w;
      cut_short = is_life w _ xs opened.said opened.begun
          (legal w.history (sequential_run w.last.deeds w.history w.outcomes w.is_run))
          (g.met.T.Tape.since_earlier journal.tape);
    }
