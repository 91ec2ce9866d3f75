-- What was noted stands.
use Rattle.std.proofs.Common.{◌≡◌, ⊎_elim, ℕ, ◌+◌, ◌≤◌, List, [], ◌∷◌, ◌++◌, length, take, drop, refl, sym, ◌∙◌, ap, subst, arith, length-append}
use Rattle.std.specs.Prelude.{◌⊎◌, Bool, true}
use Rattle.std.specs.Bool.{⊤}
use Rattle.std.specs.List.{AllByRecursion}
use Rattle.std.proofs.lemmas.List.{append-nil, append_assoc, take_all}
use mathlib.Core.List.{IsPrefix}
use Rattle.casa_history.specs.declared.entry.Entry.{Entry}
use Rattle.casa_tape.specs.declared.tape.Tape.{Ghosts as TapeOf}
use Rattle.casa_tape.specs.Lines.{AreLines, IsBetween, journal_of}
use Rattle.casa_tape.specs.Journals.{IsSettled, LeavesOnly}
use Rattle.casa_tape.proofs.Moments.{no_call, leaves_each}
use Rattle.casa_tape.proofs.Runs.{durable}
use Rattle.casa_day.specs.declared.script.Script.{Ghosts as ScriptOf}
use Rattle.casa_day.specs.declared.journal.Told.{Told}
use Rattle.casa_day.specs.Scripts.{IsTextOf, Say}
use Rattle.casa_day.specs.Journals.{Keeps}
use Rattle.casa_day.proofs.Lists.{all_append, all_each, take_front}
use Rattle.casa_day.proofs.Saying.{say_append, say_length}
use Rattle.casa_day.proofs.Keeping.{between_keeps, keeps_more, settled_keeps}
use Rattle.casa_kept.specs.Notes.{Has, IsFile, IsKeptFor, IsNoted, IsNotedNow, Notes, Shown, Stands}

-- of the front part of a list, and of what stands behind it
front_part : {A : Type 0} → (xs ys : List A) → take (length xs) (xs ++ ys) ≡ xs
front_part xs ys = take_front (length xs) xs ys (omega arith) ∙ take_all (length xs) xs (omega arith)

back_part : {A : Type 0} → (xs ys : List A) → drop (length xs) (xs ++ ys) ≡ ys
back_part [] ys = refl
back_part (x ∷ xs) ys = back_part xs ys

all_middle : {A : Type 0} → (P : A → Type 0) (xs : List A) (y : A) (zs : List A) → AllByRecursion P (xs ++ y ∷ zs) → P y
all_middle P [] y zs all = all.0
all_middle P (x ∷ xs) y zs all = all_middle P xs y zs all.1

-- how many entries a file has once more were written behind those that it had
pub all_long : {A : Type 0} → (had behind all : List A) (count : ℕ) → count ≡ length had → all ≡ had ++ behind → count + length behind ≡ length all
all_long had behind all count counted is = omega (arith, counted, ap (λ xs. length xs) is, length-append had behind)

-- of two lists of which one begins the other, the shorter one is the beginning
pub shorter_begins : {A : Type 0} → (xs ys : List A) → IsPrefix xs ys ⊎ IsPrefix ys xs → length xs ≤ length ys → IsPrefix xs ys
shorter_begins {A} xs ys either le = ⊎_elim (λ p. p) (λ p. by p.0 p.1) either
  where
    by : (rest : List A) → ys ++ rest ≡ xs → IsPrefix xs ys
    by [] is = ([], append-nil xs ∙ sym is ∙ append-nil ys)
    by (r ∷ rest) is = absurd (omega (arith, le, ap (λ zs. length zs) is, length-append ys (r ∷ rest)))

-- whatever a crash leaves since this moment, it leaves now
abbrev OnlyNow : {D : Type 0} → TapeOf D → D → Type 0
OnlyNow T tape = (c : List ℕ) → T.left_since tape (T.moment tape) c → T.may_leave tape c

-- lines with this text were added
abbrev Settles : {D : Type 0} → TapeOf D → D → D → List ℕ → Type 0
Settles T old new text = (lines added : List (List ℕ)) → AreLines added → text ≡ journal_of added → IsSettled T old lines → IsSettled T new (lines ++ added)

-- the last that was noted is noted
pub noted_now : {D : Type 0} → (old new : Notes D) (tape : D) (count size : ℕ) → IsNotedNow old new tape count → count ≡ size → IsNoted new size
noted_now old new tape count size now is = record { before = old; note = now.note; is = now.is; position = now.position ∙ is }

module _ {S C R D : Type 0} (script : ScriptOf S C R) (T : TapeOf D) where
  -- what the file has now is kept from now on
  note_stands : (es : List (Entry C R)) (tape : D) (old new : Notes D) (count : ℕ) → OnlyNow T tape
      → Has script T es tape → count ≡ length es → (now : IsNotedNow old new tape count) → Stands script T es tape now.note
  note_stands es tape old new count only has counted now = record {
    kept = record {
      past = omega (arith, ap T.moment now.at);
      kept = λ c left.
          settled_keeps script es (length es) now.note.call.position has.lines c (omega arith) (omega (arith, now.position, counted)) has.settled.are
          (subst (Say script 1 has.lines) (sym (take_all (length es) es (omega arith))) has.said)
          (durable T tape has.lines has.settled c (only c (subst (λ (d : D). T.left_since tape (T.moment d) c) now.at left)));
    };
    within = omega (arith, now.position, counted);
  }

  pub all_stand_now : (es : List (Entry C R)) (tape : D) (old new : Notes D) (count : ℕ) → OnlyNow T tape
      → Has script T es tape → count ≡ length es → AllByRecursion (Stands script T es tape) old → IsNotedNow old new tape count → AllByRecursion (Stands script T es tape) new
  all_stand_now es tape old new count only has counted stand now =
      subst (AllByRecursion (Stands script T es tape)) (sym now.is)
      (all_append (Stands script T es tape) old (now.note ∷ []) stand (note_stands es tape old new count only has counted now, tt))

  module _ (had behind all : List (Entry C R)) (old new : D) (text shown : List ℕ) (count : ℕ) (has : Has script T had old) (counted : count ≡ length had) (is : all ≡ had ++ behind)
      (same : shown ≡ text) (of : IsTextOf script (count + 1) behind text) where
    size : length has.lines ≡ length had
    size = say_length script 1 has.lines had has.said

    added_are : shown ≡ journal_of of.lines
    added_are = same ∙ of.is

    first : Say script 1 has.lines (take (length had) all)
    first = subst (Say script 1 has.lines) (sym (ap (take (length had)) is ∙ front_part had behind)) has.said

    news : Say script (length had + 1) of.lines (drop (length had) all)
    news = subst (λ (x : ℕ × List (Entry C R)). Say script (x.0 + 1) of.lines x.1) (λ i. (counted i, sym (ap (drop (length had)) is ∙ back_part had behind) i)) of.said

    within : length had ≤ length all
    within = omega (arith, ap (λ es. length es) is, length-append had behind)

    -- the file has all entries where they were written
    pub has_written : Settles T old new shown → Has script T all new
    has_written settles = record {
      lines = has.lines ++ of.lines;
      settled = settles has.lines of.lines of.are added_are has.settled;
      said = subst (Say script 1 (has.lines ++ of.lines)) (sym is)
          (say_append script 1 (count + 1) has.lines of.lines had behind (omega (arith, counted, size)) has.said of.said);
    }

    module _ (leaves : (lines added : List (List ℕ)) → AreLines added → shown ≡ journal_of added → IsSettled T old lines → LeavesOnly T old new (IsBetween lines added)) where
      run : LeavesOnly T old new (IsBetween has.lines of.lines)
      run = leaves has.lines of.lines of.are added_are has.settled

      -- a crash in the midst keeps what it had
      pub write_keeps : LeavesOnly T old new (Keeps script all (length had))
      write_keeps =
          leaves_each T old new (IsBetween has.lines of.lines) (Keeps script all (length had))
          (λ c between. between_keeps script all (length had) (length had) has.lines of.lines c within (omega arith) first news between) run

      note_on : (note : Entry (Told D) ⊤) → Stands script T had old note → Stands script T all new note
      note_on note stands = record {
        kept = record {
          past = omega (arith, stands.kept.past, run.later);
          kept = λ c left.
              ⊎_elim
              (λ was. subst (λ (es : List (Entry C R)). Keeps script es note.call.position c) (sym is) (keeps_more script had behind note.call.position c (stands.kept.kept c was)))
              (between_keeps script all (length had) note.call.position has.lines of.lines c within stands.within first news)
              (run.before (T.moment note.call.at.value) c stands.kept.past left);
        };
        within = omega (arith, stands.within, within);
      }

      -- and all that was noted still stands
      pub all_stand_on : (notes : Notes D) → AllByRecursion (Stands script T had old) notes → AllByRecursion (Stands script T all new) notes
      all_stand_on notes stand = all_each (Stands script T had old) (Stands script T all new) notes note_on stand

      -- so the file goes on where they were written
      pub written_file : (b : Bool) (notes notes' : Notes D) (n : ℕ) → OnlyNow T new
          → Settles T old new shown
          → AllByRecursion (Stands script T had old) notes → n ≡ length all → IsNotedNow notes notes' new n → IsFile script T b all new notes'
      written_file b notes notes' n only settles stand long now = record {
        has = λ _. has_written settles;
        last = λ _. noted_now notes notes' new n (length all) now long;
        stands = all_stand_now all new notes notes' n only (has_written settles) long (all_stand_on notes stand) now;
      }

  -- a file of which a write has failed
  pub broken_file : (es : List (Entry C R)) (tape : D) (notes : Notes D) → AllByRecursion (Stands script T es tape) notes → IsFile script T true es tape notes
  broken_file es tape notes stand = record { has = λ no. absurd (cc no); last = λ no. absurd (cc no); stands = stand }

  -- a file at its opening
  pub begun_file : (b : Bool) (es : List (Entry C R)) (tape : D) (old new : Notes D) (count : ℕ) → OnlyNow T tape
      → Has script T es tape → count ≡ length es → old ≡ [] → IsNotedNow old new tape count → IsFile script T b es tape new
  begun_file b es tape old new count only has counted none now = record {
    has = λ _. has;
    last = λ _. noted_now old new tape count (length es) now counted;
    stands = all_stand_now es tape old new count only has counted (subst (AllByRecursion (Stands script T es tape)) (sym none) tt) now;
  }

  -- where nothing is written, what the file has is kept
  pub nothing_written : (had behind all : List (Entry C R)) (tape : D) → OnlyNow T tape
      → Has script T had tape → all ≡ had ++ behind → LeavesOnly T tape tape (Keeps script all (length had))
  nothing_written had behind all tape only has is =
      no_call T tape (Keeps script all (length had))
      (λ c left.
      settled_keeps script all (length had) (length had) has.lines c (omega (arith, ap (λ es. length es) is, length-append had behind)) (omega arith) has.settled.are
      (subst (Say script 1 has.lines) (sym (ap (take (length had)) is ∙ front_part had behind)) has.said)
      (durable T tape has.lines has.settled c (only c left)))

  -- what was handed out is kept
  pub kept_for : (es : List (Entry C R)) (tape : D) (notes : Notes D) (shown : Shown C R D) → AllByRecursion (Stands script T es tape) notes → IsPrefix shown.notes notes
      → IsNoted shown.notes (length shown.front) → IsPrefix shown.front es ⊎ IsPrefix es shown.front → IsKeptFor script T es tape shown
  kept_for es tape notes shown stand begins noted either =
      let whole : notes ≡ noted.before ++ noted.note ∷ begins.0 =
      sym begins.1 ∙ ap (λ xs. xs ++ begins.0) noted.is ∙ append_assoc noted.before (noted.note ∷ []) begins.0 in
      let stands : Stands script T es tape noted.note =
      all_middle (Stands script T es tape) noted.before noted.note begins.0 (subst (AllByRecursion (Stands script T es tape)) whole stand) in
      record {
        begins = shorter_begins shown.front es either (omega (arith, stands.within, noted.position));
        noted = noted;
        kept = stands.kept;
      }
