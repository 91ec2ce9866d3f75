use Rattle.std.proofs.Common.{◌≡◌, ℕ, ◌+◌, List, Some, sym, subst, ◌∙◌}
use Rattle.std.specs.Prelude.{slice_get}
use Rattle.casa_flight.specs.declared.call.Call.{Call}
use Rattle.casa_flight.specs.declared.reply.Reply.{Reply}
use Rattle.casa_history.specs.declared.entry.Entry.{Entry}
use Rattle.casa_interleavings.specs.Board.{sequential_reply, HasSameStamps}
use Rattle.casa_interleavings.specs.Causes.{AreCommitted}
use Rattle.casa_interleavings.proofs.Causes.{are_committed, are_placed, are_of_refusals}
use Rattle.casa_interleavings.proofs.Legal.{sequential_run}
use Rattle.casa_interleavings.proofs.laws.runs_are_of_one_thread.Goals as goal

pub returns-clause-sequential : goal.returns-clause-sequential
returns-clause-sequential c = sequential_run

pub returns-clause-committed : goal.returns-clause-committed
returns-clause-committed c events history outcomes is =
    subst (AreCommitted sequential_reply HasSameStamps events) (sym is.2)
    (are_committed sequential_reply HasSameStamps events is.0 is.1)

pub returns-clause-accepted : goal.returns-clause-accepted
returns-clause-accepted c events history outcomes is w position told =
    subst (λ (h : List (Entry Call Reply)).
    (k : ℕ) × (e : Entry Call Reply) × (position ≡ k + 1) × (slice_get h k ≡ Some e) × (e.desk ≡ w))
    (sym is.2) (are_placed sequential_reply HasSameStamps events is.0 is.1 w position (sym (is.3 w) ∙ told))

pub returns-clause-refused : goal.returns-clause-refused
returns-clause-refused c events history outcomes is w told =
    are_of_refusals sequential_reply HasSameStamps events is.0 is.1 w (sym (is.3 w) ∙ told)
