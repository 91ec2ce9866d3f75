-- the reply of the last receipt is that of its call after the calls before it
use Rattle.std.proofs.Common.{◌≡◌, ℕ, ◌+◌, List, [], ◌∷◌, ◌++◌, Option, None, Some, map, refl, sym, ap, subst, ◌∙◌}
use Rattle.std.proofs.lemmas.List.{map-append}
use Rattle.std.proofs.lemmas.List.Sums.{fold-append}
use Rattle.std.specs.Prelude.{fold}
use Rattle.casa_filing.specs.Text.{Text}
use Rattle.casa_flight.specs.declared.call.Call.{Call}
use Rattle.casa_flight.specs.declared.call.Call.TheVariants.{List as ListOf}
use Rattle.casa_flight.specs.declared.reply.Reply.{Reply}
use Rattle.casa_flight.specs.declared.state.State.{State}
use Rattle.casa_filing.specs.declared.regulation.Measure.{Measure}
use Rattle.casa_flight.specs.State.{empty, measure_of}
use Rattle.casa_flight.specs.Steps.{after, list, next}
use Rattle.casa_flight.specs.Replies.{reply}
use Rattle.casa_flight.specs.Good.{IsGood}
use Rattle.casa_laws.proofs.Good.{empty_good}
use Rattle.casa_laws.proofs.GoodRegs.{next-good}
use Rattle.casa_history.specs.declared.entry.Receipt.{Receipt}
use Rattle.casa_history.specs.Entries.{receipt, receipts_from}
use Rattle.casa_commit.specs.Legal.{entry}
use Rattle.casa_session.specs.Played.{only_desk, sequential_history, receipts_played, state_after_calls}
use Rattle.casa_app.specs.Listed.{list_in}
use Rattle.casa_app.specs.Reports.{list_after}

reply_from : (m : State) (n : ℕ) (before now : List Call) (r : Receipt Call Reply) → receipts_from n (sequential_history m now) ≡ receipts_from n (sequential_history m before) ++ r ∷ []
    → r.entry.reply ≡ reply (fold next m before) r.entry.call
reply_from m n [] [] r h = absurd (cc)
reply_from m n [] (c ∷ now) r h =
    let head : receipt n (entry only_desk c (reply m c)) ≡ r = cc in
    subst (λ (x : Receipt Call Reply). x.entry.reply ≡ reply m x.entry.call) head refl
reply_from m n (b ∷ before) [] r h = absurd (cc)
reply_from m n (b ∷ before) (c ∷ now) r h =
    let head : receipt n (entry only_desk c (reply m c)) ≡ receipt n (entry only_desk b (reply m b)) = cc in
    let call_is : c ≡ b = ap (λ (x : Receipt Call Reply). x.entry.call) head in
    let tail : receipts_from (n + 1) (sequential_history (next m c) now) ≡ receipts_from (n + 1) (sequential_history (next m b) before) ++ r ∷ [] = cc in
    reply_from (next m b) (n + 1) before now r (subst (λ d. receipts_from (n + 1) (sequential_history (next m d) now) ≡ receipts_from (n + 1) (sequential_history (next m b) before) ++ r ∷ []) call_is tail)

last_reply : (before now : List Call) (r : Receipt Call Reply) → receipts_played now ≡ receipts_played before ++ r ∷ [] → r.entry.reply ≡ reply (state_after_calls before) r.entry.call
last_reply before now r h = reply_from empty 1 before now r h

-- so where a list was asked for, it is the one after the calls before
pub last_list : (before now : List Call) (reg : Text) (r : Receipt Call Reply) → receipts_played now ≡ receipts_played before ++ r ∷ [] → r.entry.call ≡ ListOf reg
    → list_in r.entry.reply ≡ list_after before reg
last_list before now reg r h asked = ap list_in (last_reply before now r h ∙ ap (λ (call : Call). reply (state_after_calls before) call) asked)

good_from : (m : State) (calls : List Call) → IsGood m → IsGood (fold next m calls)
good_from m [] good = good
good_from m (c ∷ calls) good = good_from (next m c) calls (next-good m c good)

-- every session leads to a good state
pub good_after : (calls : List Call) → IsGood (state_after_calls calls)
good_after calls = good_from empty calls empty_good

-- the calls that receipts are of
calls_from : (m : State) (n : ℕ) (calls : List Call) → map (λ (r : Receipt Call Reply). r.entry.call) (receipts_from n (sequential_history m calls)) ≡ calls
calls_from m n [] = refl
calls_from m n (c ∷ calls) = ap (λ (cs : List Call). c ∷ cs) (calls_from (next m c) (n + 1) calls)

-- one receipt more is of one call more
call_added : (before now : List Call) (r : Receipt Call Reply) → receipts_played now ≡ receipts_played before ++ r ∷ [] → now ≡ before ++ r.entry.call ∷ []
call_added before now r h =
    let call_of : Receipt Call Reply → Call = λ r. r.entry.call in
    sym (calls_from empty 1 now) ∙ ap (map call_of) h ∙ map-append call_of (receipts_played before) (r ∷ [])
    ∙ ap (λ (cs : List Call). cs ++ r.entry.call ∷ []) (calls_from empty 1 before)

-- to ask for a list leaves the state
list_leaves : (m : State) (reg : Text) (o : Option Measure) → after m (list m o) ≡ m
list_leaves m reg None = refl
list_leaves m reg (Some measure) = refl

pub state_stays : (before now : List Call) (reg : Text) (r : Receipt Call Reply) → receipts_played now ≡ receipts_played before ++ r ∷ [] → r.entry.call ≡ ListOf reg
    → state_after_calls now ≡ state_after_calls before
state_stays before now reg r h asked =
    ap state_after_calls (call_added before now r h) ∙ fold-append next empty before (r.entry.call ∷ [])
    ∙ ap (next (state_after_calls before)) asked ∙ list_leaves (state_after_calls before) reg (measure_of (state_after_calls before) reg)
