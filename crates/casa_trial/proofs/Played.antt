-- what is answered behind a history is what a desk answers that is alone
use Rattle.std.proofs.Common.{◌≡◌, suc, ◌+◌, List, [], ◌∷◌, ◌++◌, length, refl, sym, ap, ◌∙◌, arith}
use Rattle.std.specs.Prelude.{Result, Ok, Err, IfOk}
use Rattle.std.specs.declared.alloc.AllocError.{AllocError}
use Rattle.std.proofs.lemmas.List.{map-append}
use Rattle.casa_flight.specs.declared.call.Call.{Call}
use Rattle.casa_flight.specs.declared.reply.Reply.{Reply}
use Rattle.casa_flight.specs.declared.state.State.{State}
use Rattle.casa_flight.specs.State.{empty}
use Rattle.casa_flight.specs.Steps.{next}
use Rattle.casa_flight.specs.Replies.{reply}
use Rattle.casa_history.specs.declared.entry.Entry.{Entry}
use Rattle.casa_history.specs.declared.entry.Receipt.{Receipt}
use Rattle.casa_history.specs.Entries.{receipt, receipts_from}
use Rattle.casa_commit.specs.Legal.{entry, replay}
use Rattle.casa_branch.specs.Behind.{entries_in, only_desk}
use Rattle.casa_branch.proofs.Grown.{entries-push}
use Rattle.casa_view.specs.BoardState.{BoardState, after, opening}
use Rattle.casa_session.specs.Played.{calls_in, sequential_history, receipts_played, state_after_calls}
use Rattle.casa_session.specs.Receipts.{Receipts}
use Rattle.casa_session.proofs.PlayedCalls.{played-push, receipts_from-push}
use Rattle.casa_session.proofs.Shown.{state-shown}

length-played : (m : State) (cs : List Call) → length (sequential_history m cs) ≡ length cs
length-played m [] = refl
length-played m (c ∷ cs) = ap suc (length-played (next m c) cs)

pub length-calls : (es : List (Entry Call Reply)) → length (calls_in es) ≡ length es
length-calls [] = refl
length-calls (e ∷ es) = ap suc (length-calls es)

module _ (es : List (Entry Call Reply)) (rs : Receipts) (call : Call) (r : Receipt Call Reply) (s : BoardState)
    (is : s ≡ replay after opening (es ++ entries_in rs))
    (given : r ≡ receipt (length (es ++ entries_in rs) + 1) (entry only_desk call (reply s.state call))) where
  before : List (Entry Call Reply)
  before = es ++ entries_in rs

  calls-next : calls_in (es ++ entries_in (rs ++ r ∷ [])) ≡ calls_in before ++ call ∷ []
  unfolding before
  calls-next =
      ap calls_in (entries-push es rs r) ∙ map-append (λ (x : Entry Call Reply). x.call) before (r.entry ∷ [])
      ∙ ap (λ (x : Receipt Call Reply). calls_in before ++ x.entry.call ∷ []) given

  pub played-next : receipts_played (calls_in (es ++ entries_in (rs ++ r ∷ []))) ≡ receipts_played (calls_in (es ++ entries_in rs)) ++ r ∷ []
  unfolding before
  played-next =
      let cs : List Call = calls_in before in
      let h : List (Entry Call Reply) = sequential_history empty cs in
      let position : 1 + length h ≡ length before + 1 = omega (arith, length-played empty cs, length-calls before) in
      ap receipts_played calls-next ∙ ap (receipts_from 1) (played-push empty cs call)
      ∙ receipts_from-push 1 h (entry only_desk call (reply (state_after_calls cs) call))
      ∙ ap (λ k. receipts_from 1 h ++ receipt k (entry only_desk call (reply (state_after_calls cs) call)) ∷ []) position
      ∙ ap (λ (m : State). receipts_from 1 h ++ receipt (length before + 1) (entry only_desk call (reply m call)) ∷ []) (sym (state-shown before cs refl s is))
      ∙ ap (λ (x : Receipt Call Reply). receipts_from 1 h ++ x ∷ []) (sym given)

-- where a call was answered on a branch, its receipt is the next one after all these calls
pub played-ok : (result : Result (Receipt Call Reply) AllocError) (es es' : List (Entry Call Reply)) (rs rs' : Receipts) (call : Call) (s : BoardState)
    → s ≡ replay after opening (es ++ entries_in rs) → es' ≡ es → IfOk result (λ given. rs' ≡ rs ++ given ∷ [])
    → IfOk result (λ given. given ≡ receipt (length (es ++ entries_in rs) + 1) (entry only_desk call (reply s.state call)))
    → IfOk result (λ given. receipts_played (calls_in (es' ++ entries_in rs')) ≡ receipts_played (calls_in (es ++ entries_in rs)) ++ given ∷ [])
played-ok (Err e) es es' rs rs' call s is same grown given = tt
played-ok (Ok r) es es' rs rs' call s is same grown given =
    ap (λ (xs : List (Entry Call Reply)). receipts_played (calls_in (xs ++ entries_in rs'))) same
    ∙ ap (λ (xs : Receipts). receipts_played (calls_in (es ++ entries_in xs))) grown ∙ played-next es rs call r s is given
