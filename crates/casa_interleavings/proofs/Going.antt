-- a run and its journal go on
use Rattle.std.proofs.Common.{◌≡◌, List, [], ◌∷◌, ◌++◌, sym, ap, subst, ◌∙◌}
use Rattle.casa_flight.specs.declared.call.Call.{Call}
use Rattle.casa_flight.specs.declared.reply.Reply.{Reply}
use Rattle.casa_history.specs.declared.entry.Entry.{Entry}
use Rattle.casa_tape.specs.declared.tape.Tape.{Ghosts as TapeOf}
use Rattle.casa_day.specs.declared.script.Script.{Ghosts as ScriptOf}
use Rattle.casa_day.specs.declared.journal.Journal.{Journal}
use Rattle.casa_day.specs.Journals.{Grows, IsRunning}
use Rattle.casa_day.proofs.Keeping.{running_more}
use Rattle.casa_interleavings.specs.declared.event.Event.{Event}
use Rattle.casa_interleavings.specs.Scenes.{opening_scene, Leads}
use Rattle.casa_interleavings.specs.Board.{sequential_reply, HasSameStamps}
use Rattle.casa_interleavings.specs.Runs.{Played, run_events, run_history}
use Rattle.casa_interleavings.specs.Openings.{IsBoardRun, IsGoing}
use Rattle.casa_interleavings.proofs.Growing.{rest_grows}

-- with one event more the history of a run has grown
pub next_grows : {B : Type 0} → (run next : Played B Call Reply) (e : Event Call) → IsBoardRun run → IsBoardRun next
    → run_events next ≡ run_events run ++ e ∷ [] → Grows (run_history run) (run_history next)
next_grows run next e is also more =
    let leads =
    subst (λ (es : List (Event Call)). Leads sequential_reply HasSameStamps es opening_scene also.0) more also.1 in
    let grown = rest_grows sequential_reply HasSameStamps (run_events run) (e ∷ []) opening_scene is.0 also.0 is.1 leads in
    (grown.0, also.2 ∙ grown.1 ∙ ap (λ (es : List (Entry Call Reply)). es ++ grown.0) (sym is.2))

-- and it and its journal can go on
pub next_goes : {S D B : Type 0} {script : ScriptOf S Call Reply} {T : TapeOf D} {run next : Played B Call Reply}
    {journal : Journal D} → IsGoing script T run journal → IsBoardRun next → Grows (run_history run) (run_history next)
    → IsGoing script T next journal
next_goes {script = script} {T = T} {run = run} {journal = journal} going also grown = record {
  is_run = also;
  journaled = subst (λ (es : List (Entry Call Reply)). IsRunning script T es journal) (sym grown.1)
      (running_more script T (run_history run) grown.0 journal going.journaled);
}
