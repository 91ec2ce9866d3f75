-- what the board of a desk that is alone shows
use Rattle.std.proofs.Common.{◌≡◌, List, sym, ap, ◌∙◌}
use Rattle.casa_flight.specs.declared.call.Call.{Call}
use Rattle.casa_flight.specs.declared.reply.Reply.{Reply}
use Rattle.casa_flight.specs.declared.state.State.{State}
use Rattle.casa_flight.specs.Listing.{list_of}
use Rattle.casa_flight.specs.State.{catalogue, empty}
use Rattle.casa_filing.specs.Text.{Text}
use Rattle.casa_history.specs.declared.entry.Entry.{Entry}
use Rattle.casa_commit.specs.Legal.{replay}
use Rattle.casa_view.specs.BoardState.{BoardState, IsGoodBoard, after, opening}
use Rattle.casa_plan.proofs.Replayed.{state_replayed}
use Rattle.casa_session.specs.Played.{calls_in, state_after_calls}
use Rattle.casa_session.proofs.PlayedCalls.{state-of_calls}

-- the state to which a history leads is that after its calls
pub state-replayed : (es : List (Entry Call Reply)) → (replay after opening es).state ≡ state_after_calls (calls_in es)
state-replayed es = state_replayed es ∙ state-of_calls empty 1 es

-- of a board that is the replay of the history of these calls and stands well
module _ (es : List (Entry Call Reply)) (calls : List Call) (view : calls_in es ≡ calls) (s : BoardState) (is : s ≡ replay after opening es) where
  pub state-shown : s.state ≡ state_after_calls calls
  state-shown = ap (λ (x : BoardState). x.state) is ∙ state-replayed es ∙ ap state_after_calls view

  pub catalogue-shown : IsGoodBoard s → s.catalogue ≡ catalogue (state_after_calls calls)
  catalogue-shown well = sym well.catalogue_is ∙ ap catalogue state-shown

  pub list-shown : IsGoodBoard s → (id : Text) → s.list id ≡ list_of (state_after_calls calls) id
  list-shown well id = sym (well.list_is id) ∙ ap (λ (m : State). list_of m id) state-shown
