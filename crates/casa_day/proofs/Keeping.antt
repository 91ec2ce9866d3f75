-- What was told is kept.
use Rattle.std.proofs.Common.{◌≡◌, ⊎_elim, ℕ, ◌+◌, ◌-◌, ◌≤◌, List, [], ◌∷◌, ◌++◌, length, map, take, drop, refl, sym, ◌∙◌, ap, subst, arith, length-append, length-take, length-drop, take-append-drop}
use Rattle.std.proofs.lemmas.List.{append-nil, take_all}
use Rattle.std.specs.Prelude.{Bool, true, false, cond, filter, nat_le}
use Rattle.std.specs.List.{AllByRecursion}
use Rattle.std.proofs.lemmas.Bool.Decides.{nat_tests}
use Rattle.casa_history.specs.declared.entry.Entry.{Entry}
use Rattle.casa_tape.specs.declared.tape.Tape.{Ghosts as TapeOf}
use Rattle.casa_tape.specs.Lines.{AreLines, journal_of, whole_lines, IsBetween}
use Rattle.casa_tape.specs.Journals.{IsSettled, LeavesOnly}
use Rattle.casa_tape.proofs.Moments.{no_call, leaves_each, leaves_on}
use Rattle.casa_tape.proofs.Runs.{durable}
use Rattle.casa_tape.proofs.WholeLines.{lines_again}
use Rattle.casa_day.specs.declared.script.Script.{Ghosts as ScriptOf}
use Rattle.casa_day.specs.declared.journal.Told.{Told}
use Rattle.casa_day.specs.declared.journal.Journal.{Journal}
use Rattle.casa_day.specs.Scripts.{Say}
use Rattle.casa_day.specs.Journals.{Grows, Keeps, IsKept, IsSafe, IsRunning, IsBegun, IsToldNow}
use Rattle.casa_day.proofs.Lists.{take_drop, take_front, all_append, all_each, all_both}
use Rattle.casa_day.proofs.Saying.{say_append, say_length, say_take}

module _ {S C R : Type 0} (script : ScriptOf S C R) where
  -- more entries keep what is kept
  pub keeps_more : (es more : List (Entry C R)) (least : ℕ) (file : List ℕ) → Keeps script es least file → Keeps script (es ++ more) least file
  keeps_more es more least file keeps = record {
    count = keeps.count;
    enough = keeps.enough;
    within = omega (arith, keeps.within, length-append es more);
    said = subst (Say script 1 (whole_lines file)) (sym (take_front keeps.count es more keeps.within)) keeps.said;
  }

  -- a file that stands for the lines, and the first of those that were added, keeps what was told of the lines
  pub between_keeps : (es : List (Entry C R)) (journaled least : ℕ) (lines added : List (List ℕ)) (c : List ℕ) → journaled ≤ length es → least ≤ journaled
      → Say script 1 lines (take journaled es) → Say script (journaled + 1) added (drop journaled es) → IsBetween lines added c → Keeps script es least c
  between_keeps es journaled least lines added c within enough old new between =
      let size : length lines ≡ journaled = omega (arith, say_length script 1 lines (take journaled es) old, length-take journaled es, within) in
      let more : length added ≡ length es - journaled = omega (arith, say_length script (journaled + 1) added (drop journaled es) new, length-drop journaled es) in
      record {
        count = journaled + between.0;
        enough = omega (arith, enough);
        within = omega (arith, between.1, more, within);
        said = subst (λ (x : List (List ℕ) × List (Entry C R)). Say script 1 x.0 x.1) (λ i. (sym between.2 i, take_drop journaled between.0 es i))
            (say_append script 1 (journaled + 1) lines (take between.0 added) (take journaled es) (take between.0 (drop journaled es)) (omega (arith, size)) old
            (say_take script between.0 (journaled + 1) added (drop journaled es) new));
      }

  -- a file of the lines alone does, too
  pub settled_keeps : (es : List (Entry C R)) (journaled least : ℕ) (lines : List (List ℕ)) (c : List ℕ) → journaled ≤ length es → least ≤ journaled
      → AreLines lines → Say script 1 lines (take journaled es) → c ≡ journal_of lines → Keeps script es least c
  settled_keeps es journaled least lines c within enough are said is =
      let whole : whole_lines c ≡ lines = ap whole_lines (is ∙ sym (append-nil (journal_of lines))) ∙ lines_again lines [] are ∙ append-nil lines in
      record { count = journaled; enough = enough; within = within; said = subst (λ (ls : List (List ℕ)). Say script 1 ls (take journaled es)) (sym whole) said }

  module _ {D : Type 0} (T : TapeOf D) where
    -- more entries
    pub safe_more : (es more : List (Entry C R)) (journal : Journal D) → IsSafe script T es journal → IsSafe script T (es ++ more) journal
    safe_more es more journal safe =
        all_each (IsKept script T es journal.tape) (IsKept script T (es ++ more) journal.tape) journal.told.items
        (λ t kept. record { past = kept.past; kept = λ c left. keeps_more es more t.position c (kept.kept c left) }) safe

    pub running_more : (es more : List (Entry C R)) (journal : Journal D) → IsRunning script T es journal → IsRunning script T (es ++ more) journal
    running_more es more journal r = record {
      safe = safe_more es more journal r.safe;
      lines = r.lines;
      settled = r.settled;
      within = omega (arith, r.within, length-append es more);
      said = subst (Say script 1 r.lines) (sym (take_front journal.journaled es more r.within)) r.said;
      covered = r.covered;
    }

    -- a write of new lines keeps all that was told
    pub written_safe : (es : List (Entry C R)) (journal : Journal D) (new : D) (added : List (List ℕ)) (r : IsRunning script T es journal)
        → Say script (journal.journaled + 1) added (drop journal.journaled es) → LeavesOnly T journal.tape new (IsBetween r.lines added)
        → AllByRecursion (IsKept script T es new) journal.told.items
    written_safe es journal new added r news leaves =
        all_both (λ (t : Told D). t.position ≤ journal.journaled) (IsKept script T es journal.tape) (IsKept script T es new) journal.told.items
        (λ t enough kept. record {
          past = omega (arith, kept.past, leaves.later);
          kept = λ c left.
              ⊎_elim (kept.kept c) (between_keeps es journal.journaled t.position r.lines added c r.within enough r.said news) (leaves.before (T.moment t.at.value) c kept.past left);
        })
        r.covered r.safe

    -- after a flush the journal has all entries
    pub written_all : (es : List (Entry C R)) (journal : Journal D) (new : D) (added : List (List ℕ)) (count : ℕ) (r : IsRunning script T es journal) → count ≡ length es
        → Say script (journal.journaled + 1) added (drop journal.journaled es) → LeavesOnly T journal.tape new (IsBetween r.lines added) → IsSettled T new (r.lines ++ added)
        → IsRunning script T es (record { tape = new; journaled = count; told = journal.told })
    written_all es journal new added count r is news leaves settled =
        let size : length r.lines ≡ journal.journaled = omega (arith, say_length script 1 r.lines (take journal.journaled es) r.said, length-take journal.journaled es, r.within) in
        record {
          safe = written_safe es journal new added r news leaves;
          lines = r.lines ++ added;
          settled = settled;
          within = omega (arith, is);
          said = subst (Say script 1 (r.lines ++ added)) (take-append-drop journal.journaled es ∙ sym (take_all count es (omega (arith, is))))
              (say_append script 1 (journal.journaled + 1) r.lines added (take journal.journaled es) (drop journal.journaled es) (omega (arith, size)) r.said news);
          covered = all_each (λ (t : Told D). t.position ≤ journal.journaled) (λ (t : Told D). t.position ≤ count) journal.told.items (λ t le. omega (arith, le, r.within, is)) r.covered;
        }

    -- what the journal has is kept from now on
    told_now : (es : List (Entry C R)) (tape : D) (journaled : ℕ) (lines : List (List ℕ)) (t : Told D) → ((c : List ℕ) → T.left_since tape (T.moment tape) c → T.may_leave tape c)
        → IsSettled T tape lines → journaled ≤ length es → Say script 1 lines (take journaled es) → t.at.value ≡ tape → t.position ≤ journaled → IsKept script T es tape t
    told_now es tape journaled lines t only settled within said is enough = record {
      past = omega (arith, ap T.moment is);
      kept = λ c left.
          settled_keeps es journaled t.position lines c within enough settled.are said
          (durable T tape lines settled c (only c (subst (λ (d : D). T.left_since tape (T.moment d) c) is left)));
    }

    -- so more may be told
    pub running_told : (es : List (Entry C R)) (old new : Journal D) (positions : List ℕ) → ((c : List ℕ) → T.left_since old.tape (T.moment old.tape) c → T.may_leave old.tape c)
        → new.tape ≡ old.tape → new.journaled ≡ old.journaled → IsToldNow old new positions → IsRunning script T es old → IsRunning script T es new
    running_told es old new positions only same count told r = record {
      safe = subst (λ (x : D × List (Told D)). AllByRecursion (IsKept script T es x.0) x.1) (λ i. (sym same i, sym told.behind i))
          (all_append (IsKept script T es old.tape) old.told.items told.now r.safe
          (all_each (λ (t : Told D). (t.position ≤ old.journaled) × (t.at.value ≡ old.tape)) (IsKept script T es old.tape) told.now
          (λ t is. told_now es old.tape old.journaled r.lines t only r.settled r.within r.said is.1 is.0) told.each));
      lines = r.lines;
      settled = subst (λ (d : D). IsSettled T d r.lines) (sym same) r.settled;
      within = omega (arith, count, r.within);
      said = subst (λ (n : ℕ). Say script 1 r.lines (take n es)) (sym count) r.said;
      covered = subst (λ (x : ℕ × List (Told D)). AllByRecursion (λ (t : Told D). t.position ≤ x.0) x.1) (λ i. (sym count i, sym told.behind i))
          (all_append (λ (t : Told D). t.position ≤ old.journaled) old.told.items told.now r.covered
          (all_each (λ (t : Told D). (t.position ≤ old.journaled) × (t.at.value ≡ old.tape)) (λ (t : Told D). t.position ≤ old.journaled) told.now (λ t is. is.0) told.each));
    }

    -- and a journal at its opening goes on
    pub running_begun : (es : List (Entry C R)) (tape : D) (count : ℕ) (lines : List (List ℕ)) (journal : Journal D) → ((c : List ℕ) → T.left_since tape (T.moment tape) c → T.may_leave tape c)
        → IsBegun tape count journal → IsSettled T tape lines → Say script 1 lines es → count ≡ length es → IsRunning script T es journal
    running_begun es tape count lines journal only begun settled said is =
        let all : Say script 1 lines (take count es) = subst (Say script 1 lines) (sym (take_all count es (omega (arith, is)))) said in
        record {
          safe = subst (λ (x : D × List (Told D)). AllByRecursion (IsKept script T es x.0) x.1) (λ i. (sym begun.tape_is i, sym begun.alone i))
              (told_now es tape count lines begun.opening only settled (omega (arith, is)) all begun.now (omega (arith, begun.all)), tt);
          lines = lines;
          settled = subst (λ (d : D). IsSettled T d lines) (sym begun.tape_is) settled;
          within = omega (arith, begun.journaled, is);
          said = subst (λ (n : ℕ). Say script 1 lines (take n es)) (sym begun.journaled) all;
          covered = subst (AllByRecursion (λ (t : Told D). t.position ≤ journal.journaled)) (sym begun.alone) (omega (arith, begun.all, begun.journaled), tt);
        }

module _ {S C R D : Type 0} (script : ScriptOf S C R) (T : TapeOf D) where
  -- where nothing is done to the tape, what the journal has is kept
  pub kept_now : (es : List (Entry C R)) (journal : Journal D) → ((c : List ℕ) → T.left_since journal.tape (T.moment journal.tape) c → T.may_leave journal.tape c)
      → IsRunning script T es journal → LeavesOnly T journal.tape journal.tape (Keeps script es journal.journaled)
  kept_now es journal only r =
      no_call T journal.tape (Keeps script es journal.journaled)
      (λ c left. settled_keeps script es journal.journaled journal.journaled r.lines c r.within (omega arith) r.settled.are r.said (durable T journal.tape r.lines r.settled c (only c left)))

  -- as time goes on, with more entries, what was journaled at first is kept
  pub kept_on : (es fs : List (Entry C R)) (least more : ℕ) (old mid new : D) → Grows es fs → least ≤ more
      → LeavesOnly T old mid (Keeps script es least) → LeavesOnly T mid new (Keeps script fs more) → LeavesOnly T old new (Keeps script fs least)
  kept_on es fs least more old mid new grown le first then =
      leaves_on T old mid new (Keeps script fs least)
      (leaves_each T old mid (Keeps script es least) (Keeps script fs least)
      (λ c keeps. subst (λ (gs : List (Entry C R)). Keeps script gs least c) (sym grown.1) (keeps_more script es grown.0 least c keeps)) first)
      (leaves_each T mid new (Keeps script fs more) (Keeps script fs least)
      (λ c keeps. record { count = keeps.count; enough = omega (arith, le, keeps.enough); within = keeps.within; said = keeps.said }) then)

-- what a crash leaves at a moment keeps all that was told by then
pub kept_by : {S C R D : Type 0} → (script : ScriptOf S C R) (T : TapeOf D) (es : List (Entry C R)) (tape : D) (moment : ℕ) (left : List ℕ)
    → ((t u : ℕ) (c : List ℕ) → t ≤ u → T.left_since tape u c → T.left_since tape t c) → T.left_since tape moment left
    → (told : List (Told D)) → AllByRecursion (IsKept script T es tape) told
    → AllByRecursion (λ (p : ℕ). Keeps script es p left) (map (λ (t : Told D). t.position) (filter (λ (t : Told D). nat_le (T.moment t.at.value) moment) told))
kept_by script T es tape moment left earlier since [] kept = tt
kept_by {D = D} script T es tape moment left earlier since (t ∷ told) kept =
    by (nat_le (T.moment t.at.value) moment) refl (kept_by script T es tape moment left earlier since told kept.1)
  where
    others : List (Told D)
    others = filter (λ (t : Told D). nat_le (T.moment t.at.value) moment) told

    Kept : List (Told D) → Type 0
    Kept ts = AllByRecursion (λ (p : ℕ). Keeps script es p left) (map (λ (t : Told D). t.position) ts)

    by : (b : Bool) → nat_le (T.moment t.at.value) moment ≡ b → Kept others → Kept (cond b (t ∷ others) others)
    by true is rest = (kept.0.kept left (earlier (T.moment t.at.value) moment left (grind (arith, nat_tests)) since), rest)
    by false is rest = rest
