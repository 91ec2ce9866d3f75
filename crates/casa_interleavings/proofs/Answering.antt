-- the entry of a call that was answered again
use Rattle.std.proofs.Common.{◌≡◌, ℕ, ◌+◌, ◌-◌, ◌==◌, false, if◌then◌else◌, Some, None, List, [], ◌∷◌, ◌++◌, length, ap, subst, ◌∙◌, arith}
use Rattle.std.specs.Prelude.{slice_get}
use Rattle.std.proofs.lemmas.Bool.Decides.{nat_tests}
use Rattle.std.proofs.lemmas.Option.{same_Some}
use Rattle.casa_flight.specs.declared.call.Call.{Call}
use Rattle.casa_flight.specs.declared.reply.Reply.{Reply}
use Rattle.casa_flight.specs.Replies.{reply}
use Rattle.casa_history.specs.declared.entry.Entry.{Entry}
use Rattle.casa_history.specs.Entries.{entry_at}
use Rattle.casa_commit.specs.Legal.{replay}
use Rattle.casa_commit.proofs.Replays.{slice_get-pushed}
use Rattle.casa_view.specs.BoardState.{opening, after}
use Rattle.casa_plan.proofs.Replayed.{state_replayed}
use Rattle.casa_day.specs.declared.script.Script.{Ghosts as ScriptOf}
use Rattle.casa_interleavings.specs.Board.{sequential_reply}

-- the entry behind a history stands at the next position
pub next_entry_at : {C R : Type 0} → (history : List (Entry C R)) (e : Entry C R) {now : List (Entry C R)} {position : ℕ}
    → position ≡ length history + 1 → now ≡ history ++ e ∷ [] → entry_at position now ≡ Some e
next_entry_at history e {now} {position} at is =
    let there : (position == 0) ≡ false = grind (arith, nat_tests) in
    let place : position - 1 ≡ length history = omega (arith, at) in
    ap (λ b. if b then None else slice_get now (position - 1)) there ∙ ap (λ k. slice_get now k) place
    ∙ ap (λ xs. slice_get xs (length history)) is ∙ slice_get-pushed history e

-- what is found at the next position is the entry behind the history
pub entry_found : {C R : Type 0} → (history : List (Entry C R)) (e : Entry C R) {now : List (Entry C R)} {position : ℕ}
    {found : Entry C R} → position ≡ length history + 1 → now ≡ history ++ e ∷ [] → Some found ≡ entry_at position now
    → found ≡ e
entry_found history e {found = found} at is there = same_Some found e (there ∙ next_entry_at history e at is)

-- a line that does not vouch for the sequential reply does not vouch for that of a board
pub not_vouched : {S : Type 0} → (script : ScriptOf S Call Reply) (history : List (Entry Call Reply)) (call : Call)
    (position : ℕ) (line : List ℕ)
    → (script.vouches_for position line (sequential_reply history call) → ⊥)
    → script.vouches_for position line (reply (replay after opening history).state call) → ⊥
not_vouched script history call position line not vouched =
    not (subst (script.vouches_for position line) (ap (λ m. reply m call) (state_replayed history)) vouched)
