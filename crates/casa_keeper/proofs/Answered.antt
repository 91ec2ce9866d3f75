-- the entry of a call that was answered again
use Rattle.std.proofs.Common.{◌≡◌, ℕ, ◌+◌, ◌-◌, ◌==◌, false, if◌then◌else◌, Some, None, List, [], ◌∷◌, ◌++◌, length, take, refl, sym, ◌∙◌, ap, subst, arith, length-append}
use Rattle.std.specs.Prelude.{slice_get}
use Rattle.std.proofs.lemmas.Bool.Decides.{nat_tests}
use Rattle.std.proofs.lemmas.List.{take_at}
use Rattle.std.proofs.lemmas.Option.{same_Some}
use Rattle.casa_history.specs.declared.entry.Entry.{Entry}
use Rattle.casa_history.specs.declared.entry.Receipt.{Receipt}
use Rattle.casa_commit.specs.declared.world.World.{Ghosts as WorldOf}
use Rattle.casa_commit.specs.Legal.{IsLegal, replay}
use Rattle.casa_tape.specs.Lines.{whole_lines}
use Rattle.casa_day.specs.declared.script.Script.{Ghosts as ScriptOf}
use Rattle.casa_day.specs.Journals.{Keeps}
use Rattle.casa_day.specs.Refusals.{IsAnsweredOtherwise, IsOfLines, IsRefused}
use Rattle.casa_day.proofs.Following.{get_middle, not_refused, right_take}
use Rattle.casa_engine.specs.Fronts.{IsSeenIn}
use Rattle.casa_day.specs.declared.event.OpenFault.{OpenFault}
use Rattle.casa_keeper.specs.declared.recovery.RecoveryFault.{RecoveryFault}
use Rattle.casa_keeper.specs.declared.recovery.RecoveryFault.TheVariants.{Refused, NotAlone, MoreThanTorn, NotSetAside}
use Rattle.casa_keeper.specs.Recoveries.{IfRefused}

last_of : {A : Type 0} → (old new rest : List A) (e : A) → old ++ rest ≡ new → length new ≡ length old + 1 → slice_get new (length old) ≡ Some e → new ≡ old ++ e ∷ []
last_of old new [] e is long at = absurd (omega (arith, ap length is, length-append old [], long))
last_of old new (x ∷ []) e is long at = sym is ∙ ap (λ y. old ++ y ∷ []) (same_Some x e (sym (get_middle old x []) ∙ ap (λ es. slice_get es (length old)) is ∙ at))
last_of old new (x ∷ y ∷ rest) e is long at = absurd (omega (arith, ap length is, length-append old (x ∷ y ∷ rest), long))

module _ {W C V D R : Type 0} (world : WorldOf W C V D R) (old new : List (Entry C R)) (given : Receipt C R) (position : ℕ)
    (seen : IsSeenIn world old given new) (at : given.position ≡ position) (next : position ≡ length old + 1) where
  there : slice_get new (length old) ≡ Some given.entry
  there =
      let some : (given.position == 0) ≡ false = grind (arith, nat_tests) in
      let place : given.position - 1 ≡ length old = omega (arith, at, next) in
      sym (ap (λ k. slice_get new k) place) ∙ sym (ap (λ b. if b then None else slice_get new (given.position - 1)) some) ∙ seen.stands

  -- it stands behind what was seen before
  pub one_more : new ≡ old ++ given.entry ∷ []
  one_more = last_of old new seen.longer.0 given.entry seen.longer.1 (omega (arith, seen.last, at, next)) there

  -- and its reply is that of the calls before it
  pub reply_is : given.entry.reply ≡ world.reply (replay world.after world.opening old) given.entry.call
  reply_is =
      seen.legal (length old) given.entry there
      ∙ ap (λ es. world.reply (replay world.after world.opening es) given.entry.call) (ap (take (length old)) one_more ∙ take_at old (given.entry ∷ []) (length old) refl)

  -- so a line that does not vouch for it is answered otherwise
  pub otherwise : {S : Type 0} → (script : ScriptOf S C R) (line : List ℕ) (call : C) (shown : Entry C R) → script.says position line ≡ Some call → given.entry.call ≡ call → shown ≡ given.entry
      → (script.vouches_for position line shown.reply → ⊥) → IsAnsweredOtherwise script world old position line
  otherwise script line call shown said called same not =
      let reply : shown.reply ≡ world.reply (replay world.after world.opening old) call =
      ap (λ (e : Entry C R). e.reply) same ∙ reply_is ∙ ap (world.reply (replay world.after world.opening old)) called in
      record { call = call; said = said; other = λ vouched. not (subst (script.vouches_for position line) (sym reply) vouched) }

-- why a journal is refused, told on
pub refused_for : (P Q : OpenFault → Type 0) (fault : RecoveryFault) → ((why : OpenFault) → P why → Q why) → IfRefused P fault → IfRefused Q fault
refused_for P Q (Refused why) step is = step why is
refused_for P Q NotAlone step is = is
refused_for P Q (MoreThanTorn lines bytes) step is = is
refused_for P Q NotSetAside step is = is

-- a file that keeps a legal history is not refused for its lines
pub kept_not_refused : {S W C V G R : Type 0} → (script : ScriptOf S C R) (world : WorldOf W C V G R) (history : List (Entry C R)) (least : ℕ) (file : List ℕ) (fault : OpenFault)
    → IsLegal world.after world.reply world.opening history → Keeps script history least file → IsRefused script world (whole_lines file) fault → IsOfLines fault → ⊥
kept_not_refused script world history least file fault legal keeps =
    not_refused script world (whole_lines file) (take keeps.count history) fault (right_take world.after world.reply keeps.count 1 world.opening history legal) keeps.said
