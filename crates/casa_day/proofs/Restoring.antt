-- A journal that is read and mended.
use Rattle.std.proofs.Common.{◌≡◌, ℕ, ◌≤◌, List, Result, Err, refl, sym, subst}
use Rattle.std.specs.Prelude.{IfErr}
use Rattle.casa_tape.specs.declared.tape.Tape.{Ghosts as TapeOf}
use Rattle.casa_commit.specs.declared.world.World.{Ghosts as WorldOf}
use Rattle.casa_tape.specs.Lines.{StandsAs, whole_lines}
use Rattle.casa_tape.specs.Journals.{LeavesOnly}
use Rattle.casa_tape.proofs.Moments.{leaves_each, leaves_on}
use Rattle.casa_day.specs.declared.script.Script.{Ghosts as ScriptOf}
use Rattle.casa_day.specs.declared.event.OpenFault.{OpenFault}
use Rattle.casa_day.specs.Refusals.{IsRefused}

-- a file that is read stays, and so what is cut of it then stands for the same lines
pub stands_on : {D : Type 0} → (T : TapeOf D) (old mid new : D) → ((t : ℕ) (c : List ℕ) → t ≤ T.moment mid → T.may_leave mid c → T.left_since mid t c)
    → LeavesOnly T old mid (T.may_leave old) → LeavesOnly T mid new (StandsAs (T.may_leave mid)) → LeavesOnly T old new (StandsAs (T.may_leave old))
stands_on T old mid new counts first then =
    leaves_on T old mid new (StandsAs (T.may_leave old))
    (leaves_each T old mid (T.may_leave old) (StandsAs (T.may_leave old)) (λ c may. (c, may, refl)) first)
    (leaves_each T mid new (StandsAs (T.may_leave mid)) (StandsAs (T.may_leave old))
    (λ c stands. (stands.0, first.each stands.0 (counts (T.moment old) stands.0 first.later stands.1), stands.2)) then)

-- the same lines are refused
pub refused_same : {S W C V G R : Type 0} → {script : ScriptOf S C R} → {world : WorldOf W C V G R} → {fault : OpenFault} → (xs ys : List ℕ) → xs ≡ ys
    → IsRefused script world (whole_lines xs) fault → IsRefused script world (whole_lines ys) fault
refused_same {S} {W} {C} {V} {G} {R} {script} {world} {fault} xs ys is refused =
    subst (λ (zs : List ℕ). IsRefused script world (whole_lines zs) fault) is refused

-- what is so of an error
pub if_err : {A E : Type 0} → (P : E → Type 0) (r : Result A E) (e : E) → r ≡ Err e → P e → IfErr r P
if_err {A} {E} P r e is holds = subst (λ (x : Result A E). IfErr x P) (sym is) holds
