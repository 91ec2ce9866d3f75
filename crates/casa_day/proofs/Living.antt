-- What was told stays, over all lives.
use Rattle.std.proofs.Common.{◌≡◌, ℕ, ◌≤◌, List, [], ◌∷◌, ◌++◌, length, take, drop, sym, ◌∙◌, ap, subst, arith, length-append, length-take, take-append-drop}
use Rattle.std.proofs.lemmas.List.{append_assoc, length-map, take_all}
use Rattle.std.specs.List.{AllByRecursion}
use Rattle.casa_history.specs.declared.entry.Entry.{Entry}
use Rattle.casa_commit.specs.declared.world.World.{Ghosts as WorldOf}
use Rattle.casa_commit.specs.Legal.{IsLegal}
use Rattle.casa_tape.specs.Lines.{whole_lines}
use Rattle.casa_day.specs.declared.script.Script.{Ghosts as ScriptOf}
use Rattle.casa_day.specs.Scripts.{Say, answers_in, calls_in}
use Rattle.casa_day.specs.Journals.{Keeps, Grows}
use Rattle.casa_day.specs.Lives.{Life, AreLived, HasStill, NothingIsLost}
use Rattle.casa_tape.proofs.WholeLines.{take_take}
use Rattle.casa_day.proofs.Lists.{take_front, grows_not}
use Rattle.casa_day.proofs.Saying.{say_calls}
use Rattle.casa_day.proofs.Following.{calls_take, answers_take, length-answers, right_take, answers_follow}

module _ {S W C V G R : Type 0} (script : ScriptOf S C R) (world : WorldOf W C V G R) where
  -- a file says a legal history that begins with these calls and replies
  record Stays (es : List (Entry C R)) (file : List ℕ) : Type 0 where
    pub read : List (Entry C R)
    pub legal : IsLegal world.after world.reply world.opening read
    pub said : Say script 1 (whole_lines file) read
    pub front : Grows (answers_in es) (answers_in read)

  -- who reads a file that keeps a history reads its first calls and replies
  pub read_is : (history read : List (Entry C R)) (least : ℕ) (file : List ℕ) → IsLegal world.after world.reply world.opening history → IsLegal world.after world.reply world.opening read
      → (keeps : Keeps script history least file) → Say script 1 (whole_lines file) read → answers_in read ≡ take keeps.count (answers_in history)
  read_is history read least file legal also keeps said =
      answers_follow world.after world.reply 1 world.opening history read keeps.count legal also
      (say_calls script 1 (whole_lines file) read (take keeps.count history) said keeps.said ∙ calls_take keeps.count history)

  stays : (found : List ℕ) (lives : List (Life C R)) (left : List ℕ) (es : List (Entry C R)) → IsLegal world.after world.reply world.opening es
      → AreLived script world found lives left → Say script 1 (whole_lines found) es → Stays es left
  stays found [] left es legal lived said =
      record { read = es; legal = legal; said = subst (λ (file : List ℕ). Say script 1 (whole_lines file) es) lived said; front = grows_not (answers_in es) }
  stays found (life ∷ lives) left es legal lived said =
      let one = lived.1 in
      let count = one.kept.count in
      let now = take count life.history in
      let rest = stays lived.0 lives left now (right_take world.after world.reply count 1 world.opening life.history one.legal) lived.2 one.kept.said in
      let begun : answers_in es ≡ take life.at_opening (answers_in life.history) =
      read_is life.history es life.at_opening found one.legal legal (record { count = life.at_opening; enough = omega arith; within = one.within; said = one.opened }) said in
      let all = answers_take count life.history in
      let front : take life.at_opening (answers_in now) ≡ answers_in es = ap (take life.at_opening) all ∙ take_take life.at_opening count (answers_in life.history) one.kept.enough ∙ sym begun in
      let more = drop life.at_opening (answers_in now) in
      let split : answers_in now ≡ answers_in es ++ more = sym (take-append-drop life.at_opening (answers_in now)) ∙ ap (λ xs. xs ++ more) front in
      record {
        read = rest.read;
        legal = rest.legal;
        said = rest.said;
        front = (more ++ rest.front.0, rest.front.1 ∙ ap (λ xs. xs ++ rest.front.0) split ∙ append_assoc (answers_in es) more rest.front.0);
      }

  -- what is read behind some lives, from what a history of the first of them left
  left_of : (between : List ℕ) (life : Life C R) (lives : List (Life C R)) (left : List ℕ) (least : ℕ) → IsLegal world.after world.reply world.opening life.history
      → AreLived script world between lives left → (kept : Keeps script life.history least between) → Stays (take kept.count life.history) left
  left_of between life lives left least legal lived kept =
      stays between lives left (take kept.count life.history) (right_take world.after world.reply kept.count 1 world.opening life.history legal) lived kept.said

  module _ (left : List ℕ) (read : List (Entry C R)) (right : IsLegal world.after world.reply world.opening read) (said : Say script 1 (whole_lines left) read) where
    -- who reads the file otherwise has the same calls and replies
    one_reading : (other : List (Entry C R)) → IsLegal world.after world.reply world.opening other → Say script 1 (whole_lines left) other → answers_in other ≡ answers_in read
    one_reading other legal also =
        let calls : calls_in other ≡ calls_in read = say_calls script 1 (whole_lines left) other read also said in
        let count = length (calls_in read) in
        answers_follow world.after world.reply 1 world.opening read other count right legal (calls ∙ sym (take_all count (calls_in read) (omega arith)))
        ∙ take_all count (answers_in read) (omega (arith, length-map read (λ (e : Entry C R). e.call), length-answers read))

    -- so what one life told is still there
    still : (between : List ℕ) (life : Life C R) (lives : List (Life C R)) (position : ℕ) → IsLegal world.after world.reply world.opening life.history
        → AreLived script world between lives left → Keeps script life.history position between → HasStill read life.history position
    still between life lives position legal lived kept =
        let now = take kept.count life.history in
        let rest = left_of between life lives left position legal lived kept in
        let same = one_reading rest.read rest.legal rest.said in
        let all = answers_take kept.count life.history in
        let long : position ≤ length (answers_in now) = omega (arith, ap length all, length-take kept.count (answers_in life.history), length-answers life.history, kept.within, kept.enough) in
        record {
          enough = omega (arith, length-answers read, ap length same, ap length rest.front.1, length-append (answers_in now) rest.front.0, long);
          same = ap (take position) (sym same ∙ rest.front.1) ∙ take_front position (answers_in now) rest.front.0 long ∙ ap (take position) all
              ∙ take_take position kept.count (answers_in life.history) kept.enough;
        }

    still_each : (between : List ℕ) (life : Life C R) (lives : List (Life C R)) (told : List ℕ) → IsLegal world.after world.reply world.opening life.history → AreLived script world between lives left
        → AllByRecursion (λ (position : ℕ). Keeps script life.history position between) told → AllByRecursion (HasStill read life.history) told
    still_each between life lives [] legal lived each = tt
    still_each between life lives (p ∷ told) legal lived each = (still between life lives p legal lived each.0, still_each between life lives told legal lived each.1)

    all_still : (found : List ℕ) (lives : List (Life C R)) → AreLived script world found lives left → AllByRecursion (λ (life : Life C R). AllByRecursion (HasStill read life.history) life.told) lives
    all_still found [] lived = tt
    all_still found (life ∷ lives) lived = (still_each lived.0 life lives life.told lived.1.legal lived.2 lived.1.each, all_still lived.0 lives lived.2)

  pub nothing_is_lost : (found : List ℕ) (life : Life C R) (lives : List (Life C R)) (left : List ℕ) → AreLived script world found (life ∷ lives) left
      → NothingIsLost script world left (life ∷ lives)
  nothing_is_lost found life lives left lived =
      let rest = left_of lived.0 life lives left life.at_opening lived.1.legal lived.2 lived.1.kept in
      record { read = rest.read; legal = rest.legal; said = rest.said; each = all_still left rest.read rest.legal rest.said found (life ∷ lives) lived }
