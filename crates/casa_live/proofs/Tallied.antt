-- how tallies grow
use Rattle.std.proofs.Common.{◌≡◌, ℕ, ◌+◌, ◌^◌, ◌<◌, List, [], ◌∷◌, ◌++◌, length, map, cond, true, false, refl, sym, ◌∙◌, arith, add-zero, length-append}
use Rattle.std.specs.Prelude.{slice_index, slice_set, codes, ◌&&◌, Bool}
use Rattle.std.proofs.lemmas.List.Sums.{sum_by_push, count_by-le-length}
use Rattle.casa_filing.specs.Text.{Text, same_text}
use Rattle.casa_flight.specs.declared.call.Call.{Call}
use Rattle.casa_flight.specs.declared.call.Call.TheVariants.{File, Amend, Cancel, Revise, Exempt, OpenReg, CloseReg, Rates, Tick, Show, List as ListOf, Swap}
use Rattle.casa_flight.specs.declared.reply.Reply.{Reply}
use Rattle.casa_history.specs.declared.entry.Entry.{Entry}
use Rattle.casa_live.specs.Metrics.{calls_in, command_of, commands, is_call, is_refusal, is_refused, refusals_in}
use Rattle.casa_live.specs.declared.tally.Tally.{Tally}
use Rattle.casa_live.specs.Tallies.{IsTallyOf, at_most, command_number}

small : (n : ℕ) → n < 2 ^ 64 → at_most n ≡ n
small n h = omega arith

-- one call more of its command
counted : (f : Text → ℕ) (call : Call) → f (command_of call) + 1 < 2 ^ 64
    → slice_set (map f commands) (command_number call) (at_most (slice_index (map f commands) (command_number call) + 1))
    ≡ map (λ c. f c + cond (same_text c (command_of call)) 1 0) commands
counted f (File plan) h = rw (small (f (codes "file") + 1) h) (simp add-zero)
counted f (Amend plan) h = rw (small (f (codes "amend") + 1) h) (simp add-zero)
counted f (Cancel key) h = rw (small (f (codes "cancel") + 1) h) (simp add-zero)
counted f (Revise key) h = rw (small (f (codes "revise") + 1) h) (simp add-zero)
counted f (Exempt key) h = rw (small (f (codes "exempt") + 1) h) (simp add-zero)
counted f (Show key) h = rw (small (f (codes "show") + 1) h) (simp add-zero)
counted f (OpenReg id loc profile) h = rw (small (f (codes "open") + 1) h) (simp add-zero)
counted f (CloseReg id) h = rw (small (f (codes "close") + 1) h) (simp add-zero)
counted f (Rates id profile) h = rw (small (f (codes "rates") + 1) h) (simp add-zero)
counted f (ListOf id) h = rw (small (f (codes "list") + 1) h) (simp add-zero)
counted f (Tick at) h = rw (small (f (codes "tick") + 1) h) (simp add-zero)
counted f (Swap key other) h = rw (small (f (codes "swap") + 1) h) (simp add-zero)

-- the calls of a history with an entry more
pub calls_more : (history : List (Entry Call Reply)) (e : Entry Call Reply)
    → map (calls_in (history ++ e ∷ [])) commands ≡ map (λ c. calls_in history c + cond (is_call c e) 1 0) commands
calls_more history e = simp sum_by_push

pub refusals_more : (history : List (Entry Call Reply)) (e : Entry Call Reply)
    → map (refusals_in (history ++ e ∷ [])) commands ≡ map (λ c. refusals_in history c + cond (is_refusal c e) 1 0) commands
refusals_more history e = simp sum_by_push

pub calls_counted : (history : List (Entry Call Reply)) (e : Entry Call Reply) → length history + 1 < 2 ^ 64
    → slice_set (map (calls_in history) commands) (command_number e.call) (at_most (slice_index (map (calls_in history) commands) (command_number e.call) + 1))
    ≡ map (calls_in (history ++ e ∷ [])) commands
calls_counted history e h =
    let bound = count_by-le-length (is_call (command_of e.call)) history in
    counted (calls_in history) e.call (omega arith) ∙ sym (calls_more history e)

and_true : (b : Bool) → (b && true) ≡ b
and_true b = elim b as (λ v. (v && true) ≡ v) [ true ↦ refl | false ↦ refl ]

and_false : (b : Bool) → (b && false) ≡ false
and_false b = elim b as (λ v. (v && false) ≡ false) [ true ↦ refl | false ↦ refl ]

pub refusals_counted : (history : List (Entry Call Reply)) (e : Entry Call Reply) → length history + 1 < 2 ^ 64 → is_refused e.reply ≡ true
    → slice_set (map (refusals_in history) commands) (command_number e.call) (at_most (slice_index (map (refusals_in history) commands) (command_number e.call) + 1))
    ≡ map (refusals_in (history ++ e ∷ [])) commands
refusals_counted history e h refused =
    let bound = count_by-le-length (is_refusal (command_of e.call)) history in
    counted (refusals_in history) e.call (omega arith) ∙ sym (refusals_more history e ∙ simp (refused, and_true))

pub refusals_stay : (history : List (Entry Call Reply)) (e : Entry Call Reply) → is_refused e.reply ≡ false
    → map (refusals_in history) commands ≡ map (refusals_in (history ++ e ∷ [])) commands
refusals_stay history e accepted = sym (refusals_more history e ∙ simp (accepted, and_false, add-zero))

refused_or_not : (history : List (Entry Call Reply)) (e : Entry Call Reply) (refused : Bool) → length history + 1 < 2 ^ 64 → is_refused e.reply ≡ refused
    → cond refused (slice_set (map (refusals_in history) commands) (command_number e.call) (at_most (slice_index (map (refusals_in history) commands) (command_number e.call) + 1))) (map (refusals_in history) commands)
    ≡ map (refusals_in (history ++ e ∷ [])) commands
refused_or_not history e true h is = refusals_counted history e h is
refused_or_not history e false h is = refusals_stay history e is

-- a tally of an entry more
pub tallied : (history : List (Entry Call Reply)) (e : Entry Call Reply) (old new : Tally) → length history + 1 < 2 ^ 64 → IsTallyOf history old
    → new.position ≡ at_most (old.position + 1)
    → new.calls ≡ slice_set old.calls (command_number e.call) (at_most (slice_index old.calls (command_number e.call) + 1))
    → new.refusals ≡ cond (is_refused e.reply) (slice_set old.refusals (command_number e.call) (at_most (slice_index old.refusals (command_number e.call) + 1))) old.refusals
    → IsTallyOf (history ++ e ∷ []) new
tallied history e old new h is position calls refusals = record {
  position = omega (arith, is.position, position, length-append history (e ∷ []));
  calls = calls ∙ rw is.calls (calls_counted history e h);
  refusals = refusals ∙ rw is.refusals (refused_or_not history e (is_refused e.reply) h refl);
}
