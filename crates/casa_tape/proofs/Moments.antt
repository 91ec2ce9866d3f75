-- How a run of calls of a tape goes on.
use Rattle.std.proofs.Common.{inl, inr, ⊎_elim, ℕ, List, arith}
use Rattle.casa_tape.specs.declared.tape.Tape.{Ghosts as TapeOf}
use Rattle.casa_tape.specs.Tape.{Elapses}
use Rattle.casa_tape.specs.Journals.{LeavesOnly}

module _ {D : Type 0} (T : TapeOf D) where
  -- one call, before which and after which a crash leaves what has P
  pub one_call : (old new : D) (P : List ℕ → Type 0) → ((c : List ℕ) → T.left_since old (T.moment old) c → T.may_leave old c) → ((c : List ℕ) → T.may_leave old c → P c)
      → Elapses (T.moment old) (T.moment new) (T.left_since old) (T.left_since new) (T.may_leave new) → ((c : List ℕ) → T.may_leave new c → P c) → LeavesOnly T old new P
  one_call old new P only before time after = record {
    later = time.later;
    each = λ c left. ⊎_elim (λ was. before c (only c was)) (after c) (time.nothing_else (T.moment old) c (omega arith) left);
    before = λ t c le left. ⊎_elim inl (λ now. inr (after c now)) (time.nothing_else t c le left);
    keeps = time.keeps;
  }

  -- one call more
  pub call_more : (old mid new : D) (P : List ℕ → Type 0) → LeavesOnly T old mid P
      → Elapses (T.moment mid) (T.moment new) (T.left_since mid) (T.left_since new) (T.may_leave new) → ((c : List ℕ) → T.may_leave new c → P c) → LeavesOnly T old new P
  call_more old mid new P so_far time after = record {
    later = omega (arith, so_far.later, time.later);
    each = λ c left. ⊎_elim (so_far.each c) (after c) (time.nothing_else (T.moment old) c so_far.later left);
    before = λ t c le left. ⊎_elim (so_far.before t c le) (λ now. inr (after c now)) (time.nothing_else t c (omega (arith, le, so_far.later)) left);
    keeps = λ t c le was. time.keeps t c (omega (arith, le, so_far.later)) (so_far.keeps t c le was);
  }

  -- no call at all
  pub no_call : (tape : D) (P : List ℕ → Type 0) → ((c : List ℕ) → T.left_since tape (T.moment tape) c → P c) → LeavesOnly T tape tape P
  no_call tape P now = record { later = omega arith; each = now; before = λ t c le left. inl left; keeps = λ t c le left. left }

  -- what is left so is left otherwise
  pub leaves_each : (old new : D) (P Q : List ℕ → Type 0) → ((c : List ℕ) → P c → Q c) → LeavesOnly T old new P → LeavesOnly T old new Q
  leaves_each old new P Q step run = record {
    later = run.later;
    each = λ c left. step c (run.each c left);
    before = λ t c le left. ⊎_elim inl (λ now. inr (step c now)) (run.before t c le left);
    keeps = run.keeps;
  }

  -- one run after the other
  pub leaves_on : (old mid new : D) (P : List ℕ → Type 0) → LeavesOnly T old mid P → LeavesOnly T mid new P → LeavesOnly T old new P
  leaves_on old mid new P first then = record {
    later = omega (arith, first.later, then.later);
    each = λ c left. ⊎_elim (first.each c) (λ now. now) (then.before (T.moment old) c first.later left);
    before = λ t c le left. ⊎_elim (first.before t c le) inr (then.before t c (omega (arith, le, first.later)) left);
    keeps = λ t c le was. then.keeps t c (omega (arith, le, first.later)) (first.keeps t c le was);
  }
