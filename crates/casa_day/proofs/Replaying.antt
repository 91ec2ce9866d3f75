-- What is answered again, line by line.
use Rattle.std.proofs.Common.{◌≡◌, ℕ, ◌+◌, List, [], ◌∷◌, ◌++◌, length, refl, sym, ◌∙◌, ap, subst, arith, length-append}
use Rattle.std.proofs.lemmas.List.{append-nil, append_assoc}
use Rattle.casa_history.specs.declared.entry.Entry.{Entry}
use Rattle.casa_commit.specs.declared.world.World.{Ghosts as WorldOf}
use Rattle.casa_commit.specs.Legal.{IsLegal}
use Rattle.std.specs.Prelude.{Contains}
use Rattle.casa_tape.specs.Lines.{IsLine, AreLines, journal_of}
use Rattle.casa_tape.proofs.WholeLines.{no_lf_no_line}
use Rattle.casa_day.specs.declared.script.Script.{Ghosts as ScriptOf}
use Rattle.casa_day.specs.declared.event.OpenFault.{OpenFault}
use Rattle.casa_day.specs.Scripts.{Says, Say}
use Rattle.casa_day.specs.Refusals.{IsRefused, IsRefusedAt}
use Rattle.casa_day.specs.Days.{IsReplayed}
use Rattle.casa_day.proofs.Saying.{say_append, say_length}

pub none_is_legal : {S C R : Type 0} → (after : ℕ → S → C → S) (reply : S → C → R) (opening : S) (es : List (Entry C R)) → es ≡ [] → IsLegal after reply opening es
none_is_legal after reply opening [] is k e at = absurd (cc)
none_is_legal after reply opening (x ∷ es) is k e at = absurd (cc is)

module _ {S C R : Type 0} (script : ScriptOf S C R) where
  pub replay_begins : (lines : List (List ℕ)) (text : List ℕ) (es : List (Entry C R)) → es ≡ [] → AreLines lines → text ≡ journal_of lines → IsReplayed script lines text es 0
  replay_begins lines text es none are is =
      record { done = []; left = lines; split = refl; are_left = are; rest_is = is; said = subst (Say script 1 []) (sym none) tt; count = refl }

  -- the lines that are left are the one that is read and others
  record Next (lines : List (List ℕ)) (rest line others : List ℕ) (es : List (Entry C R)) (position : ℕ) : Type 0 where
    pub done : List (List ℕ)
    pub behind : List (List ℕ)
    pub split : lines ≡ done ++ line ∷ behind
    pub are : AreLines behind
    pub others_is : others ≡ journal_of behind
    pub said : Say script 1 done es
    pub count : position ≡ length done

  next : (lines : List (List ℕ)) (rest line others : List ℕ) (es : List (Entry C R)) (position : ℕ) → rest ≡ line ++ 10 ∷ others
      → ((l behind : List ℕ) → IsLine l → rest ≡ l ++ 10 ∷ behind → (line ≡ l) × (others ≡ behind)) → IsReplayed script lines rest es position → Next lines rest line others es position
  next lines rest line others es position here first r = step r.left r.split r.are_left r.rest_is
    where
      step : (left : List (List ℕ)) → lines ≡ r.done ++ left → AreLines left → rest ≡ journal_of left → Next lines rest line others es position
      step [] split are is = absurd (none line (sym here ∙ is))
        where
          none : (l : List ℕ) → l ++ 10 ∷ others ≡ [] → ⊥
          none [] is = absurd (cc is)
          none (b ∷ l) is = absurd (cc is)
      step (l ∷ ls) split are is =
          let parts = first l (journal_of ls) are.0 is in
          record {
            done = r.done;
            behind = ls;
            split = split ∙ ap (λ x. r.done ++ x ∷ ls) (sym parts.0);
            are = are.1;
            others_is = parts.1;
            said = r.said;
            count = r.count;
          }

  -- one line more
  pub replay_goes_on : (lines : List (List ℕ)) (rest line others : List ℕ) (es new : List (Entry C R)) (e : Entry C R) (position : ℕ) → rest ≡ line ++ 10 ∷ others
      → ((l behind : List ℕ) → IsLine l → rest ≡ l ++ 10 ∷ behind → (line ≡ l) × (others ≡ behind)) → Says script (position + 1) line e → new ≡ es ++ e ∷ []
      → IsReplayed script lines rest es position → IsReplayed script lines others new (position + 1)
  replay_goes_on lines rest line others es new e position here first says is r =
      let n = next lines rest line others es position here first r in
      record {
        done = n.done ++ line ∷ [];
        left = n.behind;
        split = n.split ∙ sym (append_assoc n.done (line ∷ []) n.behind);
        are_left = n.are;
        rest_is = n.others_is;
        said = subst (Say script 1 (n.done ++ line ∷ [])) (sym is) (say_append script 1 (position + 1) n.done (line ∷ []) es (e ∷ []) (omega (arith, n.count)) n.said (says, tt));
        count = sym (length-append n.done (line ∷ []) ∙ omega (arith, n.count));
      }

  -- where no line is left all are answered
  pub replay_ends : (lines : List (List ℕ)) (rest : List ℕ) (es : List (Entry C R)) (position : ℕ) → ¬ (Contains rest 10) → IsReplayed script lines rest es position → Say script 1 lines es × (position ≡ length es)
  replay_ends lines rest es position none r = step r.left r.split r.are_left r.rest_is
    where
      step : (left : List (List ℕ)) → lines ≡ r.done ++ left → AreLines left → rest ≡ journal_of left → Say script 1 lines es × (position ≡ length es)
      step [] split are is = (
        subst (λ (ls : List (List ℕ)). Say script 1 ls es) (sym (split ∙ append-nil r.done)) r.said,
        r.count ∙ say_length script 1 r.done es r.said,
      )
      step (l ∷ ls) split are is = absurd (no_lf_no_line rest none l (journal_of ls) are.0 is)

  -- a line at which a fault comes
  pub replay_refused : {W V G : Type 0} → (world : WorldOf W C V G R) (lines : List (List ℕ)) (rest line others : List ℕ) (es : List (Entry C R)) (position : ℕ) (fault : OpenFault) → rest ≡ line ++ 10 ∷ others
      → ((l behind : List ℕ) → IsLine l → rest ≡ l ++ 10 ∷ behind → (line ≡ l) × (others ≡ behind)) → IsLegal world.after world.reply world.opening es
      → IsRefusedAt script world es (position + 1) line fault → IsReplayed script lines rest es position → IsRefused script world lines fault
  replay_refused world lines rest line others es position fault here first legal refused r =
      let n = next lines rest line others es position here first r in
      record {
        first = n.done;
        line = line;
        behind = n.behind;
        split = n.split;
        before = es;
        legal = legal;
        said = n.said;
        refused = subst (λ (k : ℕ). IsRefusedAt script world es (k + 1) line fault) n.count refused;
      }
