-- the receipts that the sequential allocator gives
use Rattle.std.proofs.Common.{◌≡◌, ℕ, ◌+◌, List, [], ◌∷◌, ◌++◌, refl, sym, ap, subst, ◌∙◌, length, arith, Option, append-nil, append_assoc}
use Rattle.std.specs.Prelude.{fold}
use Rattle.std.specs.Io.KnownBytes.{Appends}
use Rattle.std.proofs.lemmas.List.{append_cancel_left, map-append}
use Rattle.casa_flight.specs.declared.call.Call.{Call}
use Rattle.casa_flight.specs.declared.reply.Reply.{Reply}
use Rattle.casa_flight.specs.declared.state.State.{State}
use Rattle.casa_flight.specs.State.{empty}
use Rattle.casa_flight.specs.Steps.{next}
use Rattle.casa_flight.specs.Replies.{reply}
use Rattle.casa_history.specs.declared.entry.Entry.{Entry}
use Rattle.casa_history.specs.declared.entry.Receipt.{Receipt}
use Rattle.casa_history.specs.Entries.{receipt, receipts_from}
use Rattle.casa_commit.specs.Legal.{entry, replay_from}
use Rattle.casa_session.specs.Receipts.{Receipts}
use Rattle.casa_session.specs.Transcript.{AnswersLines, calls, calls_of, transcript}
use Rattle.casa_session.specs.Played.{calls_in, only_desk, sequential_history, receipts_after, receipts_played, state_after_calls}
use Rattle.casa_session.specs.Alone.{transcript_after}

-- one call more is one entry more
pub played-push : (m : State) (cs : List Call) (c : Call) → sequential_history m (cs ++ c ∷ []) ≡ sequential_history m cs ++ entry only_desk c (reply (fold next m cs) c) ∷ []
played-push m [] c = refl
played-push m (d ∷ cs) c = ap (λ (es : List (Entry Call Reply)). entry only_desk d (reply m d) ∷ es) (played-push (next m d) cs c)

-- one entry more is one receipt more
pub receipts_from-push : (n : ℕ) (es : List (Entry Call Reply)) (e : Entry Call Reply) → receipts_from n (es ++ e ∷ []) ≡ receipts_from n es ++ receipt (n + length es) e ∷ []
receipts_from-push n [] e = let same : n ≡ n + 0 = omega arith in ap (λ k. receipt k e ∷ []) same
receipts_from-push n (x ∷ es) e =
    let same : (n + 1) + length es ≡ n + length (x ∷ es) = omega arith in
    ap (λ (rs : Receipts). receipt n x ∷ rs) (receipts_from-push (n + 1) es e ∙ ap (λ k. receipts_from (n + 1) es ++ receipt k e ∷ []) same)

-- the state to which a history leads is that after its calls
pub state-of_calls : (m : State) (n : ℕ) (es : List (Entry Call Reply)) → replay_from (λ k s call. next s call) n m es ≡ fold next m (calls_in es)
state-of_calls m n [] = refl
state-of_calls m n (e ∷ es) = state-of_calls (next m e.call) (n + 1) es

-- the receipts are of these calls
calls-played : (m : State) (n : ℕ) (cs : List Call) → calls_of (receipts_from n (sequential_history m cs)) ≡ cs
calls-played m n [] = refl
calls-played m n (c ∷ cs) = ap (λ ds. c ∷ ds) (calls-played (next m c) (n + 1) cs)

-- the receipts of some calls and of calls after them
played-append : (m : State) (n : ℕ) (cs ds : List Call) → receipts_from n (sequential_history m (cs ++ ds)) ≡ receipts_from n (sequential_history m cs) ++ receipts_from (length cs + n) (sequential_history (fold next m cs) ds)
played-append m n [] ds = let same : n ≡ 0 + n = omega arith in ap (λ k. receipts_from k (sequential_history m ds)) same
played-append m n (c ∷ cs) ds =
    let same : length cs + (n + 1) ≡ length (c ∷ cs) + n = omega arith in
    ap (λ (rs : Receipts). receipt n (entry only_desk c (reply m c)) ∷ rs)
    (played-append (next m c) (n + 1) cs ds ∙ ap (λ k. receipts_from (n + 1) (sequential_history (next m c) cs) ++ receipts_from k (sequential_history (fold next (next m c) cs) ds)) same)

-- the first of the receipts are those of the first calls
played-front : (m : State) (n : ℕ) (cs : List Call) (rs last : Receipts) → receipts_from n (sequential_history m cs) ≡ rs ++ last → rs ≡ receipts_from n (sequential_history m (calls_of rs))
played-front m n cs [] last h = refl
played-front m n [] (r ∷ rs) last h = cc
played-front m n (c ∷ cs) (r ∷ rs) last h =
    let head : receipt n (entry only_desk c (reply m c)) ≡ r = cc in
    let call_is : c ≡ r.entry.call = ap (λ (x : Receipt Call Reply). x.entry.call) head in
    let tail : receipts_from (n + 1) (sequential_history (next m c) cs) ≡ rs ++ last = cc in
    let rest : rs ≡ receipts_from (n + 1) (sequential_history (next m c) (calls_of rs)) = played-front (next m c) (n + 1) cs rs last tail in
    subst (λ d. r ∷ rs ≡ receipt n (entry only_desk d (reply m d)) ∷ receipts_from (n + 1) (sequential_history (next m d) (calls_of rs))) call_is
    ((ap (λ (x : Receipt Call Reply). x ∷ rs) (sym head)) ∙ ap (λ xs. receipt n (entry only_desk c (reply m c)) ∷ xs) rest)

-- the calls that were answered are those before, and those of the receipts that came
calls-grown : (before now : List Call) (more : Receipts) → receipts_played now ≡ receipts_played before ++ more → now ≡ before ++ calls_of more
calls-grown before now more whole =
    sym (calls-played empty 1 now) ∙ ap calls_of whole ∙ map-append (λ (r : Receipt Call Reply). r.entry.call) (receipts_played before) more
    ∙ ap (λ cs. cs ++ calls_of more) (calls-played empty 1 before)

-- receipts that come after those of some calls are what the sequential allocator gives after these
given-after : (before now : List Call) (rs last : Receipts) (lines : List (List ℕ)) → receipts_played now ≡ (receipts_played before ++ rs) ++ last → calls_of rs ≡ calls lines
    → rs ≡ receipts_after before (calls lines)
given-after before now rs last lines grows called =
    let more : Receipts = rs ++ last in
    let whole : receipts_played now ≡ receipts_played before ++ more = grows ∙ append_assoc (receipts_played before) rs last in
    let now_is : now ≡ before ++ calls_of more = calls-grown before now more whole in
    let split : receipts_played before ++ receipts_after before (calls_of more) ≡ receipts_played before ++ more =
    sym (played-append empty 1 before (calls_of more)) ∙ ap receipts_played (sym now_is) ∙ whole in
    let after : receipts_after before (calls_of more) ≡ more = append_cancel_left (receipts_played before) (receipts_after before (calls_of more)) more split in
    played-front (state_after_calls before) (length before + 1) (calls_of more) rs last after ∙ ap (receipts_after before) called

-- where the desk is alone, what is written is what the sequential allocator answers, and the desk has answered the calls of the
-- lines
pub lone-answered : (before now : List Call) (v w : Option (List ℕ)) (lines : List (List ℕ)) → AnswersLines (receipts_played before) (receipts_played now) v w lines
    → Appends v w (transcript_after before lines) × (now ≡ before ++ calls lines)
lone-answered before now v w lines h = (
  subst (λ rs. Appends v w (transcript rs lines))
      (given-after before now h.receipts [] lines (h.grows ∙ sym (append-nil (receipts_played before ++ h.receipts))) h.called) h.written,
  calls-grown before now h.receipts h.grows ∙ ap (λ cs. before ++ cs) h.called,
)
