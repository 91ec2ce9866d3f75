-- What a torn write leaves of lines.
use Rattle.std.proofs.Common.{◌≡◌, ◌⊎◌, inl, inr, ⊎_elim, ℕ, suc, ◌≤◌, List, [], ◌∷◌, ◌++◌, length, take, drop, refl, sym, ◌∙◌, ap, subst, arith, length-take}
use Rattle.std.proofs.lemmas.Bool.{cases_eq}
use Rattle.std.proofs.lemmas.List.{append-nil, append_assoc, drop_at}
use Rattle.casa_tape.specs.Tape.{IsTorn, TornBehind, CutTo}
use Rattle.casa_tape.specs.Lines.{IsLine, AreLines, journal_of, whole_lines, IsBetween}
use Rattle.casa_tape.proofs.WholeLines.{with_first, at_lf, at_nul, at_other, lines_again, parts}

-- of a line that is torn nothing counts, or all of it is there
pub torn_line : (line rest torn : List ℕ) → IsLine line → IsTorn (line ++ 10 ∷ rest) torn
    → (whole_lines torn ≡ []) ⊎ ((t : List ℕ) × IsTorn rest t × (whole_lines torn ≡ line ∷ whole_lines t))
torn_line line rest [] is torn = inl refl
torn_line [] rest (c ∷ cs) is torn = elim torn.0 [
  | inl same ↦ inr (cs, torn.1, at_lf cs c same)
  | inr nul ↦ inl (at_nul cs c nul)
]
torn_line (b ∷ line) rest (c ∷ cs) is torn = elim torn.0 [
  | inl same ↦
      let on : whole_lines (c ∷ cs) ≡ with_first b (whole_lines cs) = ap (λ x. whole_lines (x ∷ cs)) same ∙ at_other cs b is.0.0 is.0.1 in
      ⊎_elim (λ none. inl (on ∙ ap (with_first b) none))
      (λ (found : (t : List ℕ) × IsTorn rest t × (whole_lines cs ≡ line ∷ whole_lines t)).
      inr (found.0, found.1, on ∙ ap (with_first b) found.2))
      (torn_line line rest cs is.1 torn.1)
  | inr nul ↦ inl (at_nul cs c nul)
]

-- of torn lines the first ones count
pub torn_lines : (added : List (List ℕ)) (torn : List ℕ) → AreLines added → IsTorn (journal_of added) torn
    → (n : ℕ) × (n ≤ length added) × (whole_lines torn ≡ take n added)
torn_lines [] [] are is = (0, omega arith, refl)
torn_lines [] (c ∷ cs) are is = absurd is
torn_lines (line ∷ added) torn are is =
    ⊎_elim (λ none. (0, omega arith, none))
    (λ (found : (t : List ℕ) × IsTorn (journal_of added) t × (whole_lines torn ≡ line ∷ whole_lines t)).
    let rest = torn_lines added found.0 are.1 found.1 in
    (suc rest.0, omega (arith, rest.1), found.2 ∙ ap (λ ls. line ∷ ls) rest.2))
    (torn_line line (journal_of added) torn are.0 is)

pub torn_behind : (lines added : List (List ℕ)) (c : List ℕ) → AreLines lines → AreLines added → TornBehind (journal_of added) (journal_of lines) c → IsBetween lines added c
torn_behind lines added c are news torn =
    let found = torn_lines added torn.0 news torn.1 in
    (found.0, found.1, ap whole_lines torn.2 ∙ lines_again lines torn.0 are ∙ ap (λ ls. lines ++ ls) found.2)

first_of_none : (b : ℕ) (lines : List (List ℕ)) → with_first b lines ≡ [] → lines ≡ []
first_of_none b [] none = refl
first_of_none b (line ∷ lines) none = absurd (cc none)

-- what stands for nothing does so torn
pub torn_nothing : (end torn : List ℕ) → whole_lines end ≡ [] → IsTorn end torn → whole_lines torn ≡ []
torn_nothing end [] none is = refl
torn_nothing [] (c ∷ cs) none is = absurd is
torn_nothing (b ∷ end) (c ∷ cs) none is = elim is.0 [
  | inr nul ↦ at_nul cs c nul
  | inl same ↦ elim (cases_eq b 10) [
    | inl lf ↦ absurd (cc (sym (at_lf end b lf) ∙ none))
    | inr no_lf ↦ elim (cases_eq b 0) [
      | inl nul ↦ at_nul cs c (same ∙ nul)
      | inr no_nul ↦
          ap (λ x. whole_lines (x ∷ cs)) same ∙ at_other cs b no_lf no_nul
          ∙ ap (with_first b) (torn_nothing end cs (first_of_none b (whole_lines end) (sym (at_other end b no_lf no_nul) ∙ none)) is.1)
    ]
  ]
]

-- all of it is there
pub torn_whole : (bytes : List ℕ) → IsTorn bytes bytes
torn_whole [] = tt
torn_whole (b ∷ bytes) = (inl refl, torn_whole bytes)

-- a cut behind the whole lines keeps them
pub cut_keeps : (file c : List ℕ) (end : ℕ) → take end file ≡ journal_of (whole_lines file) → end ≤ length file → CutTo end file c → whole_lines c ≡ whole_lines file
cut_keeps file c end is within cut =
    let p = parts file in
    let size : end ≡ length (journal_of (whole_lines file)) = omega (arith, ap length is, length-take end file) in
    let behind : drop end file ≡ p.end = ap (λ (l : List ℕ). drop end l) p.split ∙ drop_at (journal_of (whole_lines file)) p.end end (sym size) in
    let front : c ≡ journal_of (whole_lines file) ++ cut.0 = cut.2 ∙ ap (λ (l : List ℕ). l ++ cut.0) is in
    let none = torn_nothing (drop end file) cut.0 (ap whole_lines behind ∙ p.nothing) cut.1 in
    ap whole_lines front ∙ lines_again (whole_lines file) cut.0 p.are ∙ ap (λ ls. whole_lines file ++ ls) none ∙ append-nil (whole_lines file)

pub journal_append : (lines added : List (List ℕ)) → journal_of (lines ++ added) ≡ journal_of lines ++ journal_of added
journal_append [] added = refl
journal_append (line ∷ lines) added = ap (λ l. line ++ 10 ∷ l) (journal_append lines added) ∙ sym (append_assoc line (10 ∷ journal_of lines) (journal_of added))

-- before anything is written
pub between_none : (lines added : List (List ℕ)) (c : List ℕ) → AreLines lines → c ≡ journal_of lines → IsBetween lines added c
between_none lines added c are is = (0, omega arith, ap whole_lines (is ∙ sym (append-nil (journal_of lines))) ∙ lines_again lines [] are)

-- what a write of lines may leave
pub after_append : (lines added : List (List ℕ)) (text c : List ℕ) (old : List ℕ → Type 0) → AreLines lines → AreLines added → text ≡ journal_of added
    → ((d : List ℕ) → old d → d ≡ journal_of lines) → ((d : List ℕ) × old d × TornBehind text d c) → IsBetween lines added c
after_append lines added text c old are news is only from =
    torn_behind lines added c are news
    (subst (λ (x : List ℕ × List ℕ). TornBehind x.0 x.1 c) (λ i. (is i, only from.0 from.1 i)) from.2)

pub lines_append : (ls ms : List (List ℕ)) → AreLines ls → AreLines ms → AreLines (ls ++ ms)
lines_append [] ms are also = also
lines_append (l ∷ ls) ms are also = (are.0, lines_append ls ms are.1 also)
