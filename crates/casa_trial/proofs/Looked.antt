-- what is looked at behind a history is what is looked at after its calls
use Rattle.std.proofs.Common.{◌≡◌, ℕ, List, length, sym, ap, subst, ◌∙◌}
use Rattle.std.specs.Prelude.{Result, Ok, Err, IfOk}
use Rattle.std.specs.declared.alloc.AllocError.{AllocError}
use Rattle.casa_flight.specs.declared.call.Call.{Call}
use Rattle.casa_flight.specs.declared.reply.Reply.{Reply}
use Rattle.casa_flight.specs.declared.state.State.{State}
use Rattle.casa_flight.specs.State.{catalogue}
use Rattle.casa_history.specs.declared.entry.Entry.{Entry}
use Rattle.casa_footprint.specs.Stamps.{state_after}
use Rattle.casa_view.specs.BoardState.{BoardState}
use Rattle.casa_plan.specs.Rooms.{IsBoardAfter}
use Rattle.casa_plan.proofs.Replayed.{state_replayed}
use Rattle.casa_engine.specs.declared.look.Look.{Look}
use Rattle.casa_engine.specs.Delays.{lists_in}
use Rattle.casa_engine.specs.Looks.{IsLookBehind}
use Rattle.casa_session.specs.Played.{calls_in, state_after_calls}
use Rattle.casa_session.proofs.Shown.{state-replayed}
use Rattle.casa_trial.specs.Tried.{IsLookAfter}
use Rattle.casa_trial.proofs.Played.{length-calls}

-- a history leads to the state after its calls
same-state : (es : List (Entry Call Reply)) → state_after es ≡ state_after_calls (calls_in es)
same-state es = sym (state_replayed es) ∙ state-replayed es

looked-after : (es : List (Entry Call Reply)) (look : Look) → IsLookBehind es look → IsLookAfter (calls_in es) look
looked-after es look is = record {
  calls = is.calls ∙ sym (length-calls es);
  clock = is.clock ∙ ap (λ (m : State). m.clock) (same-state es);
  regulations = is.regulations ∙ ap catalogue (same-state es);
  lists = is.lists ∙ ap lists_in (same-state es);
}

-- what holds for each history of so many calls, after which a board stands, holds for this one
pub of_history : (result : Result Look AllocError) (es : List (Entry Call Reply)) (s : BoardState) (calls : ℕ)
    → IfOk result (λ look. (history : List (Entry Call Reply)) → IsBoardAfter history s → calls ≡ length history → IsLookBehind history look)
    → IsBoardAfter es s → calls ≡ length es → IfOk result (λ look. IsLookBehind es look)
of_history (Ok look) es s calls is stands counted = is es stands counted
of_history (Err refused) es s calls is stands counted = is

pub look-after : (result : Result Look AllocError) (es : List (Entry Call Reply)) (answered : List Call) → calls_in es ≡ answered
    → IfOk result (λ look. IsLookBehind es look) → IfOk result (IsLookAfter answered)
look-after (Ok look) es answered same is = subst (λ (calls : List Call). IsLookAfter calls look) same (looked-after es look is)
look-after (Err refused) es answered same is = is
