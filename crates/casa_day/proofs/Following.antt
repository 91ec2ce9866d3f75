-- Calls have one list of replies, and so lines of a legal history are never refused.
use Rattle.std.proofs.Common.{◌≡◌, ℕ, zero, suc, ◌+◌, Some, List, [], ◌∷◌, ◌++◌, length, take, drop, refl, sym, ◌∙◌, ap, subst, arith}
use Rattle.std.specs.Prelude.{slice_get, slice_index_or}
use Rattle.std.proofs.lemmas.List.{take_at}
use Rattle.std.proofs.lemmas.Option.{same_Some}
use Rattle.casa_history.specs.declared.entry.Entry.{Entry}
use Rattle.casa_commit.specs.declared.world.World.{Ghosts as WorldOf}
use Rattle.casa_commit.specs.Legal.{replay_from, replay, IsLegal}
use Rattle.casa_day.specs.declared.script.Script.{Ghosts as ScriptOf}
use Rattle.casa_day.specs.declared.event.OpenFault.{OpenFault}
use Rattle.casa_day.specs.declared.event.OpenFault.TheVariants as opening
use Rattle.casa_day.specs.Scripts.{calls_in, answers_in, Says, Say}
use Rattle.casa_day.specs.Refusals.{IsOfLines, IsRefused}
use Rattle.casa_day.proofs.Saying.{say_calls}

pub calls_take : {C R : Type 0} → (n : ℕ) (es : List (Entry C R)) → calls_in (take n es) ≡ take n (calls_in es)
calls_take zero es = refl
calls_take (suc n) [] = refl
calls_take (suc n) (e ∷ es) = ap (λ cs. e.call ∷ cs) (calls_take n es)

pub answers_take : {C R : Type 0} → (n : ℕ) (es : List (Entry C R)) → answers_in (take n es) ≡ take n (answers_in es)
answers_take zero es = refl
answers_take (suc n) [] = refl
answers_take (suc n) (e ∷ es) = ap (λ cs. (e.call, e.reply) ∷ cs) (answers_take n es)

pub length-answers : {C R : Type 0} → (es : List (Entry C R)) → length (answers_in es) ≡ length es
length-answers [] = refl
length-answers (e ∷ es) = ap suc (length-answers es)

pub get_middle : {A : Type 0} → (xs : List A) (y : A) (ys : List A) → slice_get (xs ++ y ∷ ys) (length xs) ≡ Some y
get_middle [] y ys = refl
get_middle (x ∷ xs) y ys = get_middle xs y ys

module _ {S C R : Type 0} (after : ℕ → S → C → S) (reply : S → C → R) where
  -- the replies are right, where these entries follow a state
  abbrev pub AreRight : ℕ → S → List (Entry C R) → Type 0
  AreRight n s es = (k : ℕ) (e : Entry C R) → slice_get es k ≡ Some e → e.reply ≡ reply (replay_from after n s (take k es)) e.call

  pub right_take : (count n : ℕ) (s : S) (es : List (Entry C R)) → AreRight n s es → AreRight n s (take count es)
  right_take zero n s es right k e is = absurd (cc)
  right_take (suc count) n s [] right k e is = absurd (cc)
  right_take (suc count) n s (x ∷ es) right zero e is = right zero e is
  right_take (suc count) n s (x ∷ es) right (suc k) e is = right_take count (n + 1) (after n s x.call) es (λ j y at. right (suc j) y at) k e is

  none : (fs : List (Entry C R)) → calls_in fs ≡ [] → answers_in fs ≡ []
  none [] is = refl
  none (f ∷ fs) is = absurd (cc is)

  pub answers_follow : (n : ℕ) (s : S) (es fs : List (Entry C R)) (count : ℕ) → AreRight n s es → AreRight n s fs → calls_in fs ≡ take count (calls_in es) → answers_in fs ≡ take count (answers_in es)
  answers_follow n s es fs zero right also is = none fs is
  answers_follow n s [] fs (suc count) right also is = none fs is
  answers_follow n s (e ∷ es) [] (suc count) right also is = absurd (cc is)
  answers_follow n s (e ∷ es) (f ∷ fs) (suc count) right also is =
      let call : f.call ≡ e.call = ap (λ (cs : List C). slice_index_or cs 0 f.call) is in
      let rest : calls_in fs ≡ take count (calls_in es) = ap (λ (cs : List C). drop 1 cs) is in
      let first : f.reply ≡ e.reply = also zero f refl ∙ ap (reply s) call ∙ sym (right zero e refl) in
      let others = answers_follow (n + 1) (after n s e.call) es fs count (λ k x at. right (suc k) x at)
      (subst (λ (c : C). AreRight (n + 1) (after n s c) fs) call (λ k x at. also (suc k) x at)) rest in
      λ i. (call i, first i) ∷ others i

  -- calls lead to one state
  pub one_state : (n : ℕ) (s : S) (es fs : List (Entry C R)) → calls_in es ≡ calls_in fs → replay_from after n s es ≡ replay_from after n s fs
  one_state n s [] [] is = refl
  one_state n s [] (f ∷ fs) is = absurd (cc is)
  one_state n s (e ∷ es) [] is = absurd (cc is)
  one_state n s (e ∷ es) (f ∷ fs) is =
      let call : e.call ≡ f.call = ap (λ (cs : List C). slice_index_or cs 0 e.call) is in
      let rest : calls_in es ≡ calls_in fs = ap (λ (cs : List C). drop 1 cs) is in
      ap (λ (c : C). replay_from after (n + 1) (after n s c) es) call ∙ one_state (n + 1) (after n s f.call) es fs rest

module _ {S C R : Type 0} (script : ScriptOf S C R) where
  -- the entry that a line among others says, and those before it
  pub record Part (k : ℕ) (ls : List (List ℕ)) (l : List ℕ) (es : List (Entry C R)) : Type 0 where
    pub front : List (Entry C R)
    pub here : Entry C R
    pub back : List (Entry C R)
    pub split : es ≡ front ++ here ∷ back
    pub said : Say script k ls front
    pub says : Says script (k + length ls) l here

  pub part : (k : ℕ) (ls ms : List (List ℕ)) (l : List ℕ) (es : List (Entry C R)) → Say script k (ls ++ l ∷ ms) es → Part k ls l es
  part k [] ms l [] say = absurd say
  part k [] ms l (e ∷ es) say = record { front = []; here = e; back = es; split = refl; said = tt; says = subst (λ (n : ℕ). Says script n l e) (omega arith) say.0 }
  part k (x ∷ ls) ms l [] say = absurd say
  part k (x ∷ ls) ms l (e ∷ es) say =
      let rest = part (k + 1) ls ms l es say.1 in
      record {
        front = e ∷ rest.front;
        here = rest.here;
        back = rest.back;
        split = ap (λ fs. e ∷ fs) rest.split;
        said = (say.0, rest.said);
        says = subst (λ (n : ℕ). Says script n l rest.here) (omega arith) rest.says;
      }

  module _ {W V G : Type 0} (world : WorldOf W C V G R) where
    -- lines that say a legal history are not refused
    pub not_refused : (lines : List (List ℕ)) (history : List (Entry C R)) (fault : OpenFault) → IsLegal world.after world.reply world.opening history → Say script 1 lines history
        → IsRefused script world lines fault → IsOfLines fault → ⊥
    not_refused lines history opening.NotRead legal say r of = absurd of
    not_refused lines history opening.NoMemory legal say r of = absurd of
    not_refused lines history (opening.BadLine n) legal say r of =
        let p = part 1 r.first r.behind r.line history (subst (λ ls. Say script 1 ls history) r.split say) in
        let said : script.says (length r.first + 1) r.line ≡ Some p.here.call = subst (λ (k : ℕ). script.says k r.line ≡ Some p.here.call) (omega arith) p.says.call in
        absurd (cc (sym said ∙ r.refused.1))
    not_refused lines history (opening.ReplayDiffers n) legal say r of =
        let p = part 1 r.first r.behind r.line history (subst (λ ls. Say script 1 ls history) r.split say) in
        let other = r.refused.1 in
        let said : script.says (length r.first + 1) r.line ≡ Some p.here.call = subst (λ (k : ℕ). script.says k r.line ≡ Some p.here.call) (omega arith) p.says.call in
        let call : p.here.call ≡ other.call = same_Some p.here.call other.call (sym said ∙ other.said) in
        let at : slice_get history (length p.front) ≡ Some p.here = ap (λ es. slice_get es (length p.front)) p.split ∙ get_middle p.front p.here p.back in
        let front : take (length p.front) history ≡ p.front = ap (λ es. take (length p.front) es) p.split ∙ take_at p.front (p.here ∷ p.back) (length p.front) refl in
        let state : replay world.after world.opening (take (length p.front) history) ≡ replay world.after world.opening r.before =
        ap (replay world.after world.opening) front ∙ one_state world.after world.reply 1 world.opening p.front r.before (say_calls script 1 r.first p.front r.before p.said r.said) in
        let right : p.here.reply ≡ world.reply (replay world.after world.opening r.before) other.call = legal (length p.front) p.here at ∙ (λ i. world.reply (state i) (call i)) in
        let says : Says script (length r.first + 1) r.line p.here = subst (λ (k : ℕ). Says script k r.line p.here) (omega arith) p.says in
        other.other (subst (script.vouches_for (length r.first + 1) r.line) right says.reply)
