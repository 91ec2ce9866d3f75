-- What a crash leaves during a write of lines, and during a cut behind them.
use Rattle.std.proofs.Common.{◌≡◌, ℕ, List, sym, subst}
use Rattle.casa_tape.specs.declared.tape.Tape.{Ghosts as TapeOf}
use Rattle.casa_tape.specs.Tape.{Elapses, Follows, IsSynced, TornBehind, CutTo}
use Rattle.casa_tape.specs.Lines.{AreLines, IsBetween, IsWholeEnd, StandsAs, journal_of, whole_lines}
use Rattle.casa_tape.specs.Journals.{IsSettled, LeavesOnly, HoldsOnly}
use Rattle.casa_tape.proofs.Moments.{one_call}
use Rattle.casa_tape.proofs.Torn.{after_append, between_none, cut_keeps}

-- a crash of a settled file leaves its lines
pub durable : {D : Type 0} → (T : TapeOf D) (tape : D) (lines : List (List ℕ)) → IsSettled T tape lines → (c : List ℕ) → T.may_leave tape c → c ≡ journal_of lines
durable T tape lines settled c left = sym (settled.held c (settled.synced c left))

-- a run, and what a crash may leave at its end
pub record Run {D : Type 0} (T : TapeOf D) (old new : D) (P : List ℕ → Type 0) : Type 0 where
  pub leaves : LeavesOnly T old new P
  pub now : (c : List ℕ) → T.may_leave new c → P c

module _ {D : Type 0} (T : TapeOf D) (old new : D) (only : (c : List ℕ) → T.left_since old (T.moment old) c → T.may_leave old c)
    (time : Elapses (T.moment old) (T.moment new) (T.left_since old) (T.left_since new) (T.may_leave new)) where
  pub written : (lines added : List (List ℕ)) (text : List ℕ) → AreLines added → text ≡ journal_of added → IsSettled T old lines
      → Follows (TornBehind text) (T.may_leave old) (T.may_leave new) → Run T old new (IsBetween lines added)
  written lines added text news is settled crash =
      let now : (c : List ℕ) → T.may_leave new c → IsBetween lines added c = λ c left. after_append lines added text c (T.may_leave old) settled.are news is (durable T old lines settled) (crash c left) in
      record { leaves = one_call T old new (IsBetween lines added) only (λ c left. between_none lines added c settled.are (durable T old lines settled c left)) time now; now = now }

  pub cut : (bytes : List ℕ) (end : ℕ) → IsWholeEnd bytes end → HoldsOnly T old bytes → IsSynced T.holds T.may_leave old
      → Follows (CutTo end) (T.may_leave old) (T.may_leave new) → Run T old new (StandsAs (T.may_leave old))
  cut bytes end ends held synced crash =
      let now : (c : List ℕ) → T.may_leave new c → StandsAs (T.may_leave old) c = λ c left.
      let from = crash c left in
      let ends_so = subst (λ (xs : List ℕ). IsWholeEnd xs end) (held from.0 (synced from.0 from.1)) ends in
      (from.0, from.1, cut_keeps from.0 c end ends_so.lines ends_so.within from.2) in
      record { leaves = one_call T old new (StandsAs (T.may_leave old)) only (λ c left. (c, left, λ i. whole_lines c)) time now; now = now }
