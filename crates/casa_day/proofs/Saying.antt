-- Lines that say entries.
use Rattle.std.proofs.Common.{◌≡◌, ℕ, zero, suc, ◌+◌, List, [], ◌∷◌, ◌++◌, length, take, refl, sym, ◌∙◌, ap, subst, arith}
use Rattle.std.proofs.lemmas.Option.{same_Some}
use Rattle.casa_history.specs.declared.entry.Entry.{Entry}
use Rattle.casa_tape.specs.Lines.{IsLine}
use Rattle.casa_tape.proofs.Torn.{journal_append, lines_append}
use Rattle.casa_day.specs.declared.script.Script.{Ghosts as ScriptOf}
use Rattle.casa_day.specs.Scripts.{calls_in, Says, Say, IsTextOf}

module _ {S C R : Type 0} (script : ScriptOf S C R) where
  pub say_append : (k m : ℕ) (ls ms : List (List ℕ)) (es fs : List (Entry C R)) → m ≡ k + length ls → Say script k ls es → Say script m ms fs → Say script k (ls ++ ms) (es ++ fs)
  say_append k m [] ms [] fs is first then = subst (λ (x : ℕ). Say script x ms fs) (omega (arith, is)) then
  say_append k m [] ms (e ∷ es) fs is first then = absurd first
  say_append k m (l ∷ ls) ms [] fs is first then = absurd first
  say_append k m (l ∷ ls) ms (e ∷ es) fs is first then = (first.0, say_append (k + 1) m ls ms es fs (omega (arith, is)) first.1 then)

  pub say_length : (k : ℕ) (ls : List (List ℕ)) (es : List (Entry C R)) → Say script k ls es → length ls ≡ length es
  say_length k [] [] say = refl
  say_length k [] (e ∷ es) say = absurd say
  say_length k (l ∷ ls) [] say = absurd say
  say_length k (l ∷ ls) (e ∷ es) say = ap suc (say_length (k + 1) ls es say.1)

  pub say_take : (n k : ℕ) (ls : List (List ℕ)) (es : List (Entry C R)) → Say script k ls es → Say script k (take n ls) (take n es)
  say_take zero k ls es say = tt
  say_take (suc n) k [] [] say = tt
  say_take (suc n) k [] (e ∷ es) say = absurd say
  say_take (suc n) k (l ∷ ls) [] say = absurd say
  say_take (suc n) k (l ∷ ls) (e ∷ es) say = (say.0, say_take n (k + 1) ls es say.1)

  -- the same lines say one list of calls
  pub say_calls : (k : ℕ) (ls : List (List ℕ)) (es fs : List (Entry C R)) → Say script k ls es → Say script k ls fs → calls_in es ≡ calls_in fs
  say_calls k [] [] [] one other = refl
  say_calls k [] [] (f ∷ fs) one other = absurd other
  say_calls k [] (e ∷ es) fs one other = absurd one
  say_calls k (l ∷ ls) [] fs one other = absurd one
  say_calls k (l ∷ ls) (e ∷ es) [] one other = absurd other
  say_calls k (l ∷ ls) (e ∷ es) (f ∷ fs) one other =
      let first : e.call ≡ f.call = same_Some e.call f.call (sym one.0.call ∙ other.0.call) in
      λ i. first i ∷ say_calls (k + 1) ls es fs one.1 other.1 i

  -- a text of no entry, and of one more
  pub text_none : (k : ℕ) → IsTextOf script k [] []
  text_none k = record { lines = []; are = tt; is = refl; said = tt }

  pub text_more : (k at : ℕ) (es : List (Entry C R)) (e : Entry C R) (text line new : List ℕ) → at ≡ k + length es → IsTextOf script k es text → IsLine line → Says script at line e
      → new ≡ text ++ (line ++ 10 ∷ []) → IsTextOf script k (es ++ e ∷ []) new
  text_more k at es e text line new is so_far are says behind =
      record {
        lines = so_far.lines ++ line ∷ [];
        are = lines_append so_far.lines (line ∷ []) so_far.are (are, tt);
        is = behind ∙ ap (λ (x : List ℕ). x ++ (line ++ 10 ∷ [])) so_far.is ∙ sym (journal_append so_far.lines (line ∷ []));
        said = say_append k at so_far.lines (line ∷ []) es (e ∷ []) (omega (arith, is, say_length k so_far.lines es so_far.said)) so_far.said (says, tt);
      }
