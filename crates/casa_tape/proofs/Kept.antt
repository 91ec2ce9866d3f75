-- One more standing joins those that a file has had.
use Rattle.std.proofs.Common.{◌≡◌, ◌⊎◌, inl, inr, ⊎_elim, ℕ, zero, suc, ◌<◌, Some, List, [], ◌∷◌, ◌++◌, length, refl, sym, ◌∙◌, subst, arith, length-append}
use Rattle.std.specs.Prelude.{slice_get}
use Rattle.std.proofs.lemmas.Option.{same_Some, slice_get_within}
use Rattle.casa_tape.specs.declared.memory.Standing.{Standing}
use Rattle.casa_tape.specs.Tape.{Elapses}
use Rattle.casa_tape.specs.Memory.{left_by, WasLeft}

before : (xs : List Standing) (y : Standing) (k : ℕ) → k < length xs → slice_get (xs ++ y ∷ []) k ≡ slice_get xs k
before [] y k lt = absurd (omega (arith, lt))
before (x ∷ xs) y zero lt = refl
before (x ∷ xs) y (suc k) lt = before xs y k (omega (arith, lt))

-- one of those before, or the last
which : (xs : List Standing) (y z : Standing) (k : ℕ) → slice_get (xs ++ y ∷ []) k ≡ Some z → (slice_get xs k ≡ Some z) ⊎ (z ≡ y)
which [] y z zero is = inr (sym (same_Some y z is))
which [] y z (suc k) is = absurd (cc is)
which (x ∷ xs) y z zero is = inl is
which (x ∷ xs) y z (suc k) is = which xs y z k is

elapses_push : (past : List Standing) (old new : Standing)
    → Elapses (length past) (length (past ++ old ∷ [])) (WasLeft (past ++ old ∷ [])) (WasLeft ((past ++ old ∷ []) ++ new ∷ [])) (left_by new)
elapses_push past old new = record {
  later = omega (arith, length-append past (old ∷ []));
  nothing_else = λ t c le was.
      ⊎_elim (λ stood. inl (record { moment = was.moment; later = was.later; then = was.then; stood = stood; crash = was.crash }))
      (λ is. inr (subst (λ s. left_by s c) is was.crash))
      (which (past ++ old ∷ []) new was.then was.moment was.stood);
  keeps = λ t c le was. record {
    moment = was.moment;
    later = was.later;
    then = was.then;
    stood = before (past ++ old ∷ []) new was.moment (slice_get_within (past ++ old ∷ []) was.moment was.then was.stood) ∙ was.stood;
    crash = was.crash;
  };
}

pub elapses_same : (past : List Standing) (now : Standing) → Elapses (length past) (length past) (WasLeft (past ++ now ∷ [])) (WasLeft (past ++ now ∷ [])) (left_by now)
elapses_same past now = record { later = omega arith; nothing_else = λ t c le left. inl left; keeps = λ t c le left. left }

pub elapses_to : (past later : List Standing) (old now new : Standing) → now ≡ new → later ≡ past ++ old ∷ []
    → Elapses (length past) (length later) (WasLeft (past ++ old ∷ [])) (WasLeft (later ++ now ∷ [])) (left_by now)
elapses_to past later old now new is same =
    subst (λ (x : List Standing × Standing). Elapses (length past) (length x.0) (WasLeft (past ++ old ∷ [])) (WasLeft (x.0 ++ x.1 ∷ [])) (left_by x.1)) (λ i. (sym same i, sym is i)) (elapses_push past old new)

pub elapses_not : (past later : List Standing) (old now : Standing) → now ≡ old → later ≡ past
    → Elapses (length past) (length later) (WasLeft (past ++ old ∷ [])) (WasLeft (later ++ now ∷ [])) (left_by now)
elapses_not past later old now is same =
    subst (λ (x : List Standing × Standing). Elapses (length past) (length x.0) (WasLeft (past ++ old ∷ [])) (WasLeft (x.0 ++ x.1 ∷ [])) (left_by x.1)) (λ i. (sym same i, sym is i)) (elapses_same past old)
