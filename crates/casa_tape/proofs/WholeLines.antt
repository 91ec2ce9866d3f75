-- The whole lines of a file, and what stands behind them.
use Rattle.std.proofs.Common.{◌≡◌, ◌≢◌, inl, inr, ℕ, zero, suc, ◌+◌, ◌-◌, ◌<◌, ◌≤◌, ◌==◌, List, [], ◌∷◌, ◌++◌, length, get_or, take, drop, refl, sym, ◌∙◌, ap, subst, arith, length-append, length-take}
use Rattle.std.specs.Prelude.{Bool, Contains}
use Rattle.std.specs.List.{onto_first, position_or_len, slice_split}
use Rattle.std.proofs.lemmas.Bool.{cases_eq}
use Rattle.std.proofs.lemmas.Bool.Decides.{nat_tests}
use Rattle.std.proofs.lemmas.List.{append-nil, append_assoc, take_at, take_all, drop_at, get_or_at}
use Rattle.casa_tape.specs.Lines.{IsLine, AreLines, before_nul, ended_lines, journal_of, whole_lines, HasNoLine, IsWholeEnd}

abbrev pub is_lf : ℕ → Bool
is_lf b = b == 10

-- a byte at the front of the first of some lines, if there is one
abbrev pub with_first : ℕ → List (List ℕ) → List (List ℕ)
with_first b [] = []
with_first b (line ∷ lines) = (b ∷ line) ∷ lines

abbrev but_last : List (List ℕ) → List (List ℕ)
but_last parts = take (length parts - 1) parts

but_last_more : (x y : List ℕ) (parts : List (List ℕ)) → but_last (x ∷ y ∷ parts) ≡ x ∷ but_last (y ∷ parts)
but_last_more x y parts =
    let more : length (x ∷ y ∷ parts) - 1 ≡ suc (length parts) = omega arith in
    let less : length parts ≡ length (y ∷ parts) - 1 = omega arith in
    ap (λ n. take n (x ∷ y ∷ parts)) more ∙ ap (λ n. x ∷ take n (y ∷ parts)) less

but_last_first : (b : ℕ) (x : List ℕ) (parts : List (List ℕ)) → but_last ((b ∷ x) ∷ parts) ≡ with_first b (but_last (x ∷ parts))
but_last_first b x [] = refl
but_last_first b x (y ∷ parts) = but_last_more (b ∷ x) y parts ∙ ap (with_first b) (sym (but_last_more x y parts))

split_lf : (bs : List ℕ) (b : ℕ) → b ≡ 10 → slice_split is_lf (b ∷ bs) ≡ [] ∷ slice_split is_lf bs
split_lf bs b is = grind (arith, nat_tests)

split_other : (bs : List ℕ) (b : ℕ) → b ≢ 10 → slice_split is_lf (b ∷ bs) ≡ onto_first b (slice_split is_lf bs)
split_other bs b not = grind (arith, nat_tests)

-- there is a part
record Some_part (bs : List ℕ) : Type 0 where
  pub first : List ℕ
  pub others : List (List ℕ)
  pub is : slice_split is_lf bs ≡ first ∷ others

some_part : (bs : List ℕ) → Some_part bs
some_part [] = record { first = []; others = []; is = refl }
some_part (b ∷ bs) = elim (cases_eq b 10) [
  | inl lf ↦ record { first = []; others = slice_split is_lf bs; is = split_lf bs b lf }
  | inr not ↦
      let part = some_part bs in
      record { first = b ∷ part.first; others = part.others; is = split_other bs b not ∙ ap (onto_first b) part.is }
]

ended_lf : (bs : List ℕ) (b : ℕ) → b ≡ 10 → ended_lines (b ∷ bs) ≡ [] ∷ ended_lines bs
ended_lf bs b lf =
    let part = some_part bs in
    ap but_last (split_lf bs b lf ∙ ap (λ ps. [] ∷ ps) part.is) ∙ but_last_more [] part.first part.others ∙ ap (λ ps. [] ∷ but_last ps) (sym part.is)

ended_other : (bs : List ℕ) (b : ℕ) → b ≢ 10 → ended_lines (b ∷ bs) ≡ with_first b (ended_lines bs)
ended_other bs b not =
    let part = some_part bs in
    ap but_last (split_other bs b not ∙ ap (onto_first b) part.is) ∙ but_last_first b part.first part.others ∙ ap (λ ps. with_first b (but_last ps)) (sym part.is)

nul_ends : (bs : List ℕ) (b : ℕ) → b ≡ 0 → before_nul (b ∷ bs) ≡ []
nul_ends bs b is = grind (arith, nat_tests)

no_nul_goes_on : (bs : List ℕ) (b : ℕ) → b ≢ 0 → before_nul (b ∷ bs) ≡ b ∷ before_nul bs
no_nul_goes_on bs b not = grind (arith, nat_tests)

pub at_lf : (bs : List ℕ) (b : ℕ) → b ≡ 10 → whole_lines (b ∷ bs) ≡ [] ∷ whole_lines bs
at_lf bs b is = ap ended_lines (no_nul_goes_on bs b (λ nul. absurd (omega (arith, is, nul)))) ∙ ended_lf (before_nul bs) b is

pub at_nul : (bs : List ℕ) (b : ℕ) → b ≡ 0 → whole_lines (b ∷ bs) ≡ []
at_nul bs b is = ap ended_lines (nul_ends bs b is)

pub at_other : (bs : List ℕ) (b : ℕ) → b ≢ 10 → b ≢ 0 → whole_lines (b ∷ bs) ≡ with_first b (whole_lines bs)
at_other bs b no_lf no_nul = ap ended_lines (no_nul_goes_on bs b no_nul) ∙ ended_other (before_nul bs) b no_lf

-- a line with its LF is one of them
pub line_first : (line bytes : List ℕ) → IsLine line → whole_lines (line ++ 10 ∷ bytes) ≡ line ∷ whole_lines bytes
line_first [] bytes is = at_lf bytes 10 refl
line_first (b ∷ line) bytes is = at_other (line ++ 10 ∷ bytes) b is.0.0 is.0.1 ∙ ap (with_first b) (line_first line bytes is.1)

-- lines of a journal are read again
pub lines_again : (lines : List (List ℕ)) (rest : List ℕ) → AreLines lines → whole_lines (journal_of lines ++ rest) ≡ lines ++ whole_lines rest
lines_again [] rest are = refl
lines_again (line ∷ lines) rest are =
    ap whole_lines (append_assoc line (10 ∷ journal_of lines) rest) ∙ line_first line (journal_of lines ++ rest) are.0
    ∙ ap (λ ls. line ∷ ls) (lines_again lines rest are.1)

-- bytes are whole lines, and an end that stands for nothing
pub record Parts (bytes : List ℕ) (lines : List (List ℕ)) : Type 0 where
  pub end : List ℕ
  pub split : bytes ≡ journal_of lines ++ end
  pub nothing : whole_lines end ≡ []
  pub are : AreLines lines

with_byte : (b : ℕ) (bs : List ℕ) (lines : List (List ℕ)) → b ≢ 10 → b ≢ 0 → lines ≡ whole_lines bs → Parts bs lines → Parts (b ∷ bs) (with_first b lines)
with_byte b bs [] no_lf no_nul is rest = record {
  end = b ∷ bs;
  split = refl;
  nothing = at_other bs b no_lf no_nul ∙ ap (with_first b) (sym is);
  are = tt;
}
with_byte b bs (line ∷ lines) no_lf no_nul is rest = record {
  end = rest.end;
  split = ap (λ l. b ∷ l) rest.split;
  nothing = rest.nothing;
  are = (((no_lf, no_nul), rest.are.0), rest.are.1);
}

pub parts : (bytes : List ℕ) → Parts bytes (whole_lines bytes)
parts [] = record { end = []; split = refl; nothing = refl; are = tt }
parts (b ∷ bs) = elim (cases_eq b 10) [
  | inl lf ↦
      let rest = parts bs in
      subst (Parts (b ∷ bs)) (sym (at_lf bs b lf)) (record {
        end = rest.end;
        split = (λ i. lf i ∷ rest.split i);
        nothing = rest.nothing;
        are = (tt, rest.are);
      })
  | inr no_lf ↦ elim (cases_eq b 0) [
    | inl nul ↦ subst (Parts (b ∷ bs)) (sym (at_nul bs b nul)) (record { end = b ∷ bs; split = refl; nothing = at_nul bs b nul; are = tt })
    | inr no_nul ↦ subst (Parts (b ∷ bs)) (sym (at_other bs b no_lf no_nul)) (with_byte b bs (whole_lines bs) no_lf no_nul refl (parts bs))
  ]
]

-- where no LF stands, no line ends
none_ended : (bs : List ℕ) → ((j : ℕ) → j < length bs → get_or bs j 0 ≢ 10) → ended_lines bs ≡ []
none_ended [] none = refl
none_ended (b ∷ bs) none =
    ended_other bs b (none zero (omega arith)) ∙ ap (with_first b) (none_ended bs (λ j lt. none (suc j) (omega (arith, lt))))

-- up to the last LF stand the lines that are ended
up_to_last : (bs : List ℕ) (k : ℕ) → k < length bs → get_or bs k 0 ≡ 10 → ((j : ℕ) → k < j → j < length bs → get_or bs j 0 ≢ 10)
    → take (k + 1) bs ≡ journal_of (ended_lines bs)
up_to_last [] k lt is none = absurd (omega (arith, lt))
up_to_last (b ∷ bs) zero lt is none =
    (λ i. is i ∷ []) ∙ ap (λ ls. 10 ∷ journal_of ls) (sym (none_ended bs (λ j below. none (suc j) (omega arith) (omega (arith, below)))))
    ∙ ap journal_of (sym (ended_lf bs b is))
up_to_last (b ∷ bs) (suc k) lt is none =
    let number : suc k + 1 ≡ suc (k + 1) = omega arith in
    let rest = up_to_last bs k (omega (arith, lt)) is (λ j above below. none (suc j) (omega (arith, above)) (omega (arith, below))) in
    ap (λ n. take n (b ∷ bs)) number ∙ elim (cases_eq b 10) [
      | inl lf ↦ (λ i. lf i ∷ rest i) ∙ ap journal_of (sym (ended_lf bs b lf))
      | inr not ↦ ap (λ l. b ∷ l) rest ∙ on_first (ended_lines bs) rest ∙ ap journal_of (sym (ended_other bs b not))
    ]
  where
    on_first : (ls : List (List ℕ)) → take (k + 1) bs ≡ journal_of ls → b ∷ journal_of ls ≡ journal_of (with_first b ls)
    on_first [] same = absurd (omega (arith, lt, ap length same, length-take (k + 1) bs))
    on_first (line ∷ ls) same = refl

pub take_take : {A : Type 0} → (m n : ℕ) (xs : List A) → m ≤ n → take m (take n xs) ≡ take m xs
take_take zero n xs le = refl
take_take (suc m) zero xs le = absurd (omega (arith, le))
take_take (suc m) (suc n) [] le = refl
take_take (suc m) (suc n) (x ∷ xs) le = ap (λ ys. x ∷ ys) (take_take m n xs (omega (arith, le)))

-- the bytes before the first NUL are the first of all
before_nul_is : (bytes : List ℕ) (end : ℕ) → end ≤ length (before_nul bytes) → (take end bytes ≡ take end (before_nul bytes)) × (end ≤ length bytes)
before_nul_is bytes end within =
    let cut = length-take (position_or_len (λ b. b == 0) bytes) bytes in
    (sym (take_take end (position_or_len (λ b. b == 0) bytes) bytes (omega (arith, within, cut))), omega (arith, within, cut))

pub whole_at : (bytes : List ℕ) (k : ℕ) → k < length (before_nul bytes) → get_or (before_nul bytes) k 0 ≡ 10
    → ((j : ℕ) → k < j → j < length (before_nul bytes) → get_or (before_nul bytes) j 0 ≢ 10) → IsWholeEnd bytes (k + 1)
whole_at bytes k lt is none =
    let first = before_nul_is bytes (k + 1) (omega (arith, lt)) in
    record { lines = first.0 ∙ up_to_last (before_nul bytes) k lt is none; within = first.1 }

pub whole_none : (bytes : List ℕ) → ((j : ℕ) → j < length (before_nul bytes) → get_or (before_nul bytes) j 0 ≢ 10) → IsWholeEnd bytes 0
whole_none bytes none = record { lines = ap journal_of (sym (none_ended (before_nul bytes) none)); within = omega arith }

-- where nothing counts no line begins
pub no_line : (bytes : List ℕ) → whole_lines bytes ≡ [] → HasNoLine bytes
no_line bytes nothing line behind is begins =
    let found : whole_lines bytes ≡ line ∷ whole_lines behind = ap whole_lines (begins ∙ sym (append_assoc line (10 ∷ []) behind)) ∙ lines_again (line ∷ []) behind (is, tt) in
    absurd (cc (sym found ∙ nothing))

none_whole : (bytes : List ℕ) → HasNoLine bytes → whole_lines bytes ≡ []
none_whole bytes none = step (whole_lines bytes) refl
  where
    step : (found : List (List ℕ)) → found ≡ whole_lines bytes → whole_lines bytes ≡ []
    step [] is = sym is
    step (line ∷ others) is =
        let p = parts bytes in
        let split : bytes ≡ line ++ 10 ∷ (journal_of others ++ p.end) = p.split ∙ ap (λ ls. journal_of ls ++ p.end) (sym is) ∙ append_assoc line (10 ∷ journal_of others) p.end in
        absurd (none line (journal_of others ++ p.end) (subst AreLines (sym is) p.are).0 split)

-- lines with which bytes begin, and behind which no line begins, are the whole ones
pub whole_is : (bytes end : List ℕ) (lines : List (List ℕ)) → AreLines lines → bytes ≡ journal_of lines ++ end → HasNoLine end → lines ≡ whole_lines bytes
whole_is bytes end lines are is none = sym (ap whole_lines is ∙ lines_again lines end are ∙ ap (λ ls. lines ++ ls) (none_whole end none) ∙ append-nil lines)

-- the first line
abbrev pub lf_place : List ℕ → ℕ
lf_place bytes = position_or_len is_lf bytes

place_other : (b : ℕ) (bs : List ℕ) → b ≢ 10 → lf_place (b ∷ bs) ≡ lf_place bs + 1
place_other b bs apart = grind (arith, nat_tests)

place_lf : (b : ℕ) (bs : List ℕ) → b ≡ 10 → lf_place (b ∷ bs) ≡ 0
place_lf b bs is = grind (arith, nat_tests)

place_line : (line rest : List ℕ) → IsLine line → lf_place (line ++ 10 ∷ rest) ≡ length line
place_line [] rest is = place_lf 10 rest refl
place_line (b ∷ line) rest is =
    let on : lf_place (b ∷ (line ++ 10 ∷ rest)) ≡ lf_place (line ++ 10 ∷ rest) + 1 = place_other b (line ++ 10 ∷ rest) is.0.0 in
    on ∙ omega (arith, place_line line rest is.1)

pub first_at : (bytes : List ℕ) (n : ℕ) → n ≡ lf_place bytes → n < length bytes → bytes ≡ take n bytes ++ 10 ∷ drop (n + 1) bytes
first_at [] n is within = absurd (omega (arith, within))
first_at (b ∷ bs) zero is within = elim (cases_eq b 10) [
  | inl lf ↦ ap (λ x. x ∷ bs) lf
  | inr other ↦ absurd (omega (arith, is, place_other b bs other))
]
first_at (b ∷ bs) (suc n) is within = elim (cases_eq b 10) [
  | inl lf ↦ absurd (omega (arith, is, place_lf b bs lf))
  | inr other ↦
      let number : suc (n + 1) ≡ suc n + 1 = omega arith in
      ap (λ l. b ∷ l) (first_at bs n (omega (arith, is, place_other b bs other)) (omega (arith, within))) ∙ ap (λ (k : ℕ). b ∷ (take n bs ++ 10 ∷ drop k (b ∷ bs))) number
]

pub first_split : (bytes line rest : List ℕ) (end : ℕ) → IsLine line → bytes ≡ line ++ 10 ∷ rest → end ≡ lf_place bytes
    → (take end bytes ≡ line) × (take (length bytes - (end + 1)) (drop (end + 1) bytes) ≡ rest)
first_split bytes line rest end is whole at =
    let size : end ≡ length line = at ∙ ap lf_place whole ∙ place_line line rest is in
    let long : length bytes ≡ length line + (1 + length rest) = ap length whole ∙ length-append line (10 ∷ rest) ∙ omega arith in
    let split : bytes ≡ (line ++ 10 ∷ []) ++ rest = whole ∙ sym (append_assoc line (10 ∷ []) rest) in
    let front : length (line ++ 10 ∷ []) ≡ end + 1 = length-append line (10 ∷ []) ∙ omega (arith, size) in (
      ap (λ (xs : List ℕ). take end xs) whole ∙ take_at line (10 ∷ rest) end (sym size),
      ap (λ (xs : List ℕ). take (length bytes - (end + 1)) (drop (end + 1) xs)) split
          ∙ ap (λ (xs : List ℕ). take (length bytes - (end + 1)) xs) (drop_at (line ++ 10 ∷ []) rest (end + 1) front)
          ∙ take_all (length bytes - (end + 1)) rest (omega (arith, size, long)),
    )

-- a text without LF has no line
pub no_lf_no_line : (bytes : List ℕ) → ¬ (Contains bytes 10) → HasNoLine bytes
no_lf_no_line bytes none line behind is whole =
    none (length line, omega (arith, ap length whole, length-append line (10 ∷ behind)), ap (λ xs. get_or xs (length line) 10) whole ∙ get_or_at line 10 behind 10 (length line) refl)
