-- a life of many workers is one of those that follow one another
use Rattle.std.proofs.Common.{◌≡◌, ℕ, ◌≤◌, Result, List, [], ◌∷◌, ◌++◌, length, take, refl, sym, ap, subst, ◌∙◌, arith, length-append}
use Rattle.std.proofs.lemmas.List.{take_at}
use Rattle.std.specs.Prelude.{slice_index_or}
use Rattle.std.specs.List.{AllByRecursion}
use Rattle.casa_flight.specs.declared.call.Call.{Call}
use Rattle.casa_flight.specs.declared.reply.Reply.{Reply}
use Rattle.casa_commit.specs.declared.world.World.{Ghosts as WorldOf}
use Rattle.casa_commit.specs.Legal.{IsLegal}
use Rattle.casa_tape.specs.declared.tape.Tape.{Ghosts as TapeOf}
use Rattle.casa_tape.specs.Lines.{whole_lines}
use Rattle.casa_day.specs.declared.script.Script.{Ghosts as ScriptOf}
use Rattle.casa_day.specs.declared.event.DayFault.{DayFault}
use Rattle.casa_day.specs.declared.journal.Told.{Told}
use Rattle.casa_day.specs.declared.journal.Journal.{Journal}
use Rattle.casa_day.specs.Scripts.{Say}
use Rattle.casa_history.specs.declared.entry.Entry.{Entry}
use Rattle.casa_interleavings.specs.declared.event.Event.{Event}
use Rattle.casa_day.specs.Journals.{Grows, IsBegun, IsKept, Keeps, WasOpen, told_by}
use Rattle.casa_day.specs.Lives.{IsLived}
use Rattle.casa_day.proofs.Keeping.{kept_by}
use Rattle.casa_day.proofs.Lists.{grows_not, grows_on}
use Rattle.casa_interleavings.specs.Runs.{Played}
use Rattle.casa_interleavings.specs.declared.day_event.DayEvent.{DayEvent}
use Rattle.casa_interleavings.specs.declared.day_event.DayEvent.TheVariants.{Do, Flush, Tell}
use Rattle.casa_interleavings.specs.Courses.{Stage, GoesOn, GoOn}
use Rattle.casa_interleavings.specs.Lives.{HasGoneOn}

module _ {S D : Type 0} (script : ScriptOf S Call Reply) (T : TapeOf D) where
  -- what was told stays told
  told_step : (e : DayEvent Call) (a b : Stage D) → GoesOn script T e a b → Grows a.journal.told.items b.journal.told.items
  told_step (Do deed) a b goes =
      subst (λ (j : Journal D). Grows a.journal.told.items j.told.items) (sym goes.1) (grows_not a.journal.told.items)
  told_step Flush a b goes =
      subst (λ (ts : List (Told D)). Grows a.journal.told.items ts) (sym goes.1.told) (grows_not a.journal.told.items)
  told_step (Tell position) a b goes = (goes.1.now.now, goes.1.now.behind)

  told_on : (es : List (DayEvent Call)) (a b : Stage D) → GoOn script T es a b
      → Grows a.journal.told.items b.journal.told.items
  told_on [] a b is =
      subst (λ (c : Stage D). Grows a.journal.told.items c.journal.told.items) is (grows_not a.journal.told.items)
  told_on (e ∷ es) a b on =
      grows_on a.journal.told.items on.0.journal.told.items b.journal.told.items
      (told_step e a on.0 on.1) (told_on es on.0 b on.2)

-- whenever a life was cut short that went on like this, it was left by one of those that follow one another
module _ {S D B : Type 0} {script : ScriptOf S Call Reply} {T : TapeOf D} {first : List (Entry Call Reply)}
    {deeds : List (Event Call)} {opening journal : Journal D} {events : List (DayEvent Call)} {end : Result (Played B Call Reply) DayFault}
    (w : HasGoneOn script T first (record { deeds = deeds; journal = opening }) events end journal) where
  pub is_life : {W V G : Type 0} → (world : WorldOf W Call V G Reply) (found : List ℕ)
      → Say script 1 (whole_lines found) first → IsBegun opening.tape (length first) opening → IsLegal world.after world.reply world.opening w.history
      → ((t u : ℕ) (c : List ℕ) → t ≤ u → T.left_since journal.tape u c → T.left_since journal.tape t c)
      → (moment : ℕ) (left : List ℕ) → WasOpen T journal moment → T.left_since journal.tape moment left
      → IsLived script world found
      (record { history = w.history; at_opening = length first; told = told_by T journal moment }) left
  is_life world found said begun legal earlier moment left was_open since =
      let more = told_on script T (take w.happened events) (record { deeds = deeds; journal = opening }) w.last w.goes_on in
      let split : journal.told.items ≡ begun.opening ∷ more.0 = w.told ∙ more.1 ∙ ap (λ ts. ts ++ more.0) begun.alone in
      let kept : IsKept script T w.history journal.tape begun.opening =
      (subst (AllByRecursion (IsKept script T w.history journal.tape)) split w.safe).0 in
      let same : was_open.opening ≡ begun.opening =
      ap (λ ts. slice_index_or ts 0 was_open.opening) (sym was_open.first ∙ split) in
      let by : T.moment begun.opening.at.value ≤ moment =
      subst (λ (t : Told D). T.moment t.at.value ≤ moment) same was_open.by in
      record {
        legal = legal;
        within = omega (arith, ap (λ es. length es) w.begins.1, length-append first w.begins.0);
        opened = subst (Say script 1 (whole_lines found))
            (sym (ap (take (length first)) w.begins.1 ∙ take_at first w.begins.0 (length first) refl)) said;
        kept = subst (λ (n : ℕ). Keeps script w.history n left) begun.all
            (kept.kept left (earlier (T.moment begun.opening.at.value) moment left by since));
        each = kept_by script T w.history journal.tape moment left earlier since journal.told.items w.safe;
      }
