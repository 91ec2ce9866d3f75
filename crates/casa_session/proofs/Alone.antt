-- a desk that is alone stays so
use Rattle.std.proofs.Common.{◌≡◌, ◌+◌, ◌<◌, List, [], ◌∷◌, ◌++◌, sym, ap, subst, ◌∙◌, length, take, arith}
use Rattle.std.specs.Prelude.{Result, Ok, Err, Some, IfOk, OnErr}
use Rattle.std.specs.List.{slice_get}
use Rattle.std.proofs.lemmas.List.{map-append}
use Rattle.std.proofs.Math.Seq.{take-append_seam}
use Rattle.casa_flight.specs.declared.call.Call.{Call}
use Rattle.casa_flight.specs.declared.reply.Reply.{Reply}
use Rattle.casa_flight.specs.State.{empty}
use Rattle.casa_flight.specs.Replies.{reply}
use Rattle.std.specs.declared.alloc.AllocError.{AllocError}
use Rattle.casa_history.specs.declared.entry.Entry.{Entry}
use Rattle.casa_history.specs.declared.entry.Receipt.{Receipt}
use Rattle.casa_history.specs.Entries.{receipt, receipts_from}
use Rattle.casa_commit.specs.declared.room.Room.{Room}
use Rattle.casa_commit.specs.declared.world.World.{Ghosts as WorldOf}
use Rattle.casa_commit.specs.Legal.{entry, replay}
use Rattle.casa_commit.specs.Rooms.{entries_of, next_entry, Extends, IsUnchanged}
use Rattle.casa_commit.proofs.Replays.{slice_get-pushed}
use Rattle.casa_session.specs.Alone.{IsAlone}
use Rattle.casa_session.specs.Played.{calls_in, only_desk, sequential_history, receipts_played, state_after_calls}
use Rattle.casa_session.proofs.PlayedCalls.{played-push, receipts_from-push}

module _ {W V D : Type 0} {world : WorldOf W Call V D Reply} where
  module _ (says : (es : List (Entry Call Reply)) (call : Call) → world.reply (replay world.after world.opening es) call ≡ reply (state_after_calls (calls_in es)) call)
      (room : Room W Call V D Reply world) (call : Call) (change : D) (given : Receipt Call Reply) (room' : Room W Call V D Reply world)
      (p : IsAlone room) (q : Extends room only_desk call change given room') where
    es : List (Entry Call Reply)
    es = entries_of room

    -- the entry that the room made is the sequential allocator's
    next_is : next_entry room only_desk call ≡ entry only_desk call (reply (state_after_calls (calls_in es)) call)
    unfolding es
    next_is =
        let e : Entry Call Reply = next_entry room only_desk call in
        let found : slice_get (entries_of room') (length es) ≡ Some e = ap (λ (l : List (Entry Call Reply)). slice_get l (length es)) q.history ∙ slice_get-pushed es e in
        let first : take (length es) (entries_of room') ≡ es = ap (take (length es)) q.history ∙ take-append_seam es (e ∷ []) in
        let replied : e.reply ≡ reply (state_after_calls (calls_in es)) call =
        q.legal (length es) e found ∙ ap (λ (l : List (Entry Call Reply)). world.reply (replay world.after world.opening l) call) first ∙ says es call in
        ap (entry only_desk call) replied

    history_is : entries_of room' ≡ sequential_history empty (calls_in (entries_of room'))
    unfolding es
    history_is =
        let e : Entry Call Reply = next_entry room only_desk call in
        let calls_are : calls_in (entries_of room') ≡ calls_in es ++ call ∷ [] = ap calls_in q.history ∙ map-append (λ (x : Entry Call Reply). x.call) es (e ∷ []) in
        q.history ∙ ap (λ (x : Entry Call Reply). es ++ x ∷ []) next_is
        ∙ ap (λ (l : List (Entry Call Reply)). l ++ entry only_desk call (reply (state_after_calls (calls_in es)) call) ∷ []) p.history
        ∙ sym (played-push empty (calls_in es) call) ∙ ap (sequential_history empty) (sym calls_are)

    receipts_are : receipts_from 1 (entries_of room') ≡ receipts_from 1 (entries_of room) ++ given ∷ []
    unfolding es
    receipts_are =
        let e : Entry Call Reply = next_entry room only_desk call in
        let position : 1 + length es ≡ length es + 1 = omega arith in
        ap (receipts_from 1) q.history ∙ receipts_from-push 1 es e
        ∙ ap (λ k. receipts_from 1 es ++ receipt k e ∷ []) position ∙ ap (λ (r : Receipt Call Reply). receipts_from 1 es ++ r ∷ []) (sym q.receipt_is)

    pub alone-extended : IsAlone room'
    alone-extended = record {
      is_open = subst (λ n. only_desk < n) (sym q.desks) p.is_open;
      history = history_is;
    }

    pub receipt-extended : receipts_played (calls_in (entries_of room')) ≡ receipts_played (calls_in (entries_of room)) ++ given ∷ []
    receipt-extended =
        ap (receipts_from 1) (sym history_is) ∙ receipts_are ∙ ap (λ (l : List (Entry Call Reply)). receipts_from 1 l ++ given ∷ []) p.history

  pub alone-unchanged : (room room' : Room W Call V D Reply world) → IsAlone room → IsUnchanged room room' → IsAlone room'
  alone-unchanged room room' p q = record {
    is_open = subst (λ n. only_desk < n) (sym q.desks) p.is_open;
    history = q.history ∙ p.history ∙ ap (λ (l : List (Entry Call Reply)). sequential_history empty (calls_in l)) (sym q.history);
  }

  module _ (says : (es : List (Entry Call Reply)) (call : Call) → world.reply (replay world.after world.opening es) call ≡ reply (state_after_calls (calls_in es)) call)
      (room : Room W Call V D Reply world) (call : Call) (room' : Room W Call V D Reply world) (p : IsAlone room) where
    -- it stays alone, whether the call is answered or not
    pub alone-answered : (result : Result (Receipt Call Reply) AllocError) → IfOk result (λ given. (change : D) × Extends room only_desk call change given room')
        → OnErr result (IsUnchanged room room') → IsAlone room'
    alone-answered (Ok given) ok err = alone-extended says room call ok.0 given room' p ok.1
    alone-answered (Err fault) ok err = alone-unchanged room room' p err

    -- an answer is one receipt more
    pub receipt-answered : (result : Result (Receipt Call Reply) AllocError) → IfOk result (λ given. (change : D) × Extends room only_desk call change given room')
        → IfOk result (λ given. receipts_played (calls_in (entries_of room')) ≡ receipts_played (calls_in (entries_of room)) ++ given ∷ [])
    receipt-answered (Ok given) ok = receipt-extended says room call ok.0 given room' p ok.1
    receipt-answered (Err fault) ok = tt
