-- for proofs: why the laws of a tape hold of a file in memory
use Rattle.std.specs.Prelude.{◌≡◌, refl, ℕ, zero, suc, ◌≤◌, Some, List, [], ◌∷◌, ◌++◌, length, take, slice_get}
use Rattle.std.proofs.Common.{inl, arith, sym, subst}
use Rattle.std.proofs.lemmas.Option.{same_Some}
use Rattle.casa_tape.specs.declared.memory.Standing.{Standing}
use Rattle.casa_tape.specs.Tape.{IsTorn}
use Rattle.casa_tape.specs.Memory.{shown_bytes, left_by, WasLeft}

-- the first bytes that were written are a torn part of them
pub torn_take : (n : ℕ) (loose : List ℕ) → IsTorn loose (take n loose)
torn_take zero loose = tt
torn_take (suc n) [] = tt
torn_take (suc n) (b ∷ loose) = (inl refl, torn_take n loose)

-- a crash may leave all that a read returns
pub shown_left : (s : Standing) (c : List ℕ) → c ≡ shown_bytes s → left_by s c
shown_left s c is = (take s.shown s.loose.items, torn_take s.shown s.loose.items, is)

at_end : (past : List Standing) (now : Standing) → slice_get (past ++ now ∷ []) (length past) ≡ Some now
at_end [] now = refl
at_end (s ∷ past) now = at_end past now

from_end : (past : List Standing) (now s : Standing) (k : ℕ) → length past ≤ k → slice_get (past ++ now ∷ []) k ≡ Some s → s ≡ now
from_end [] now s zero le is = sym (same_Some now s is)
from_end [] now s (suc k) le is = absurd (cc is)
from_end (x ∷ past) now s zero le is = absurd (omega (arith, le))
from_end (x ∷ past) now s (suc k) le is = from_end past now s k (omega (arith, le)) is

-- what is left now
pub left_now : (past : List Standing) (now : Standing) (t : ℕ) (c : List ℕ) → t ≤ length past → left_by now c → WasLeft (past ++ now ∷ []) t c
left_now past now t c le left = record { moment = length past; later = le; then = now; stood = at_end past now; crash = left }

-- since now there is no other moment
pub left_only_now : (past : List Standing) (now : Standing) (c : List ℕ) → WasLeft (past ++ now ∷ []) (length past) c → left_by now c
left_only_now past now c was = subst (λ s. left_by s c) (from_end past now was.then was.moment was.later was.stood) was.crash

-- what was left since a moment was left since an earlier one
pub left_earlier : (standings : List Standing) (t u : ℕ) (c : List ℕ) → t ≤ u → WasLeft standings u c → WasLeft standings t c
left_earlier standings t u c le was = record { moment = was.moment; later = omega (arith, le, was.later); then = was.then; stood = was.stood; crash = was.crash }
