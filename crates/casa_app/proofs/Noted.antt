-- what is kept of replies, a byte more and a reply more
use Rattle.std.proofs.Common.{◌≡◌, ℕ, zero, suc, ◌+◌, ◌-◌, ◌==◌, ◌<◌, ◌≤◌, ◌∙◌, List, [], ◌∷◌, ◌++◌, length, take, Bool, true, false, ◌&&◌, ◌||◌, min, refl, sym, ap, arith, append-nil, append_assoc, length-append}
use Rattle.std.proofs.lemmas.Bool.{ne_eqb}
use Rattle.std.proofs.lemmas.List.{take_all}
use Rattle.std.proofs.lemmas.List.Concat.{flat_map-append}
use Rattle.std.specs.List.{flat_map}
use Rattle.casa_session.specs.Sending.{saturating_count}
use Rattle.casa_session.proofs.Splitting.{ended_from-append, rest_from-append}
use Rattle.casa_session.specs.Lines.{ended_lines, is_lf, rest_from}
use Rattle.casa_app.specs.declared.notes.Notes.{Notes}
use Rattle.casa_app.specs.Notes.{AreOf, first_no_json}
use Rattle.casa_app.specs.Remarks.{Remark, head, remark_line, remark_on, remarks, remarks_from, tells_no_json}

ended_lf : (before : List ℕ) → ended_lines (before ++ 10 ∷ []) ≡ ended_lines before ++ rest_from [] before ∷ []
ended_lf before = ended_from-append [] before (10 ∷ [])

rest_lf : (before : List ℕ) → rest_from [] (before ++ 10 ∷ []) ≡ []
rest_lf before = rest_from-append [] before (10 ∷ [])

ended_other : (before : List ℕ) (b : ℕ) → is_lf b ≡ false → ended_lines (before ++ b ∷ []) ≡ ended_lines before
ended_other before b other = ended_from-append [] before (b ∷ []) ∙ rw other (append-nil (ended_lines before))

rest_other : (before : List ℕ) (b : ℕ) → is_lf b ≡ false → rest_from [] (before ++ b ∷ []) ≡ rest_from [] before ++ b ∷ []
rest_other before b other = rest_from-append [] before (b ∷ []) ∙ rw other refl

-- a byte more that is no LF
pub byte_noted : (old new : Notes) (before : List ℕ) (b : ℕ) → is_lf b ≡ false → new.head.items ≡ head (rest_from [] before ++ b ∷ [])
    → new.lines ≡ old.lines → new.count ≡ old.count → new.text.items ≡ old.text.items → new.first_no_json ≡ old.first_no_json → AreOf old before → AreOf new (before ++ b ∷ [])
byte_noted old new before b other head_is lines count text first h =
    let same : ended_lines before ≡ ended_lines (before ++ b ∷ []) = sym (ended_other before b other) in
    record {
      head_is = head_is ∙ ap head (sym (rest_other before b other));
      lines_are = lines ∙ h.lines_are ∙ ap (λ ls. saturating_count (length ls)) same;
      count_is = count ∙ h.count_is ∙ ap (λ ls. saturating_count (length (remarks_from 0 ls))) same;
      text_is = text ∙ h.text_is ∙ ap (λ ls. flat_map (remark_line false) (take 10 (remarks_from 0 ls))) same;
      first_is = first ∙ h.first_is ∙ ap first_no_json same;
    }

-- a reply more
pub remarks_from-push : (n m : ℕ) (rs : List (List ℕ)) (r : List ℕ) → m ≡ n + length rs + 1 → remarks_from n (rs ++ r ∷ []) ≡ remarks_from n rs ++ remark_on (saturating_count m) (head r)
remarks_from-push n m [] r e =
    let same : n + 1 ≡ m = omega arith in
    append-nil (remark_on (saturating_count (n + 1)) (head r)) ∙ ap (λ k. remark_on (saturating_count k) (head r)) same
remarks_from-push n m (x ∷ rs) r e =
    ap (λ l. remark_on (saturating_count (n + 1)) (head x) ++ l) (remarks_from-push (n + 1) m rs r (omega arith))
    ∙ sym (append_assoc (remark_on (saturating_count (n + 1)) (head x)) (remarks_from (n + 1) rs) (remark_on (saturating_count m) (head r)))

counted : (most n k c d : ℕ) → c ≡ min n most → d ≡ min (c + k) most → d ≡ min (n + k) most
counted most n k c d e f = omega arith

take_both : (k : ℕ) (xs ys : List Remark) → take k (xs ++ ys) ≡ take k xs ++ take (k - length xs) ys
take_both zero xs ys = let none : 0 ≡ 0 - length xs = omega arith in ap (λ n. take n ys) none
take_both (suc k) [] ys = let all : suc k ≡ suc k - 0 = omega arith in ap (λ n. take n ys) all
take_both (suc k) (x ∷ xs) ys =
    let less : k - length xs ≡ suc k - suc (length xs) = omega arith in
    ap (λ l. x ∷ l) (take_both k xs ys) ∙ ap (λ n. x ∷ (take k xs ++ take n ys)) less

-- the one remark that is said, or none
pub take_one : (n : ℕ) (r : Remark) → 0 < n → take n (r ∷ []) ≡ r ∷ []
take_one n r some = take_all n (r ∷ []) (omega arith)

lines_more : (most c : ℕ) (t s : List ℕ) (rs one : List Remark) → 10 ≤ most → c ≡ min (length rs) most → t ≡ flat_map (remark_line false) (take 10 rs)
    → s ≡ t ++ flat_map (remark_line false) (take (10 - c) one) → s ≡ flat_map (remark_line false) (take 10 (rs ++ one))
lines_more most c t s rs one many e f g =
    let left : 10 - c ≡ 10 - length rs = omega arith in
    g ∙ ap (λ (x : List ℕ). x ++ flat_map (remark_line false) (take (10 - c) one)) f ∙ ap (λ k. flat_map (remark_line false) (take 10 rs) ++ flat_map (remark_line false) (take k one)) left
    ∙ sym (flat_map-append (remark_line false) (take 10 rs) (take (10 - length rs) one)) ∙ ap (flat_map (remark_line false)) (sym (take_both 10 rs one))

or_false : (b : Bool) → (b || false) ≡ b
or_false true = refl
or_false false = refl

first_more : (most n : ℕ) (rs : List (List ℕ)) (r : List ℕ) → 1 < most → n ≡ min (length rs + 1) most → (first_no_json rs || ((n == 1) && tells_no_json (head r))) ≡ first_no_json (rs ++ r ∷ [])
first_more most n [] r more e = let one : n ≡ 1 = omega arith in rw one refl
first_more most n (x ∷ rs) r more e = let later : (n == 1) ≡ false = ne_eqb n 1 (omega arith) in rw later (or_false (tells_no_json (head x)))

pub reply_noted : (old new : Notes) (before : List ℕ) → new.head.items ≡ [] → new.lines ≡ saturating_count (old.lines + 1)
    → new.count ≡ saturating_count (old.count + length (remark_on new.lines old.head.items))
    → new.text.items ≡ old.text.items ++ flat_map (remark_line false) (take (10 - old.count) (remark_on new.lines old.head.items))
    → new.first_no_json ≡ (old.first_no_json || ((new.lines == 1) && tells_no_json old.head.items)) → AreOf old before → AreOf new (before ++ 10 ∷ [])
reply_noted old new before empty lines count text first h =
    let rs = ended_lines before in
    let r = rest_from [] before in
    let number : new.lines ≡ saturating_count (length rs + 1) = counted _ (length rs) 1 old.lines new.lines h.lines_are lines in
    let one : remark_on new.lines old.head.items ≡ remark_on (saturating_count (length rs + 1)) (head r) = ap (λ n. remark_on n old.head.items) number ∙ ap (remark_on (saturating_count (length rs + 1))) h.head_is in
    let more : remarks before ++ remark_on new.lines old.head.items ≡ remarks (before ++ 10 ∷ []) =
    ap (λ l. remarks before ++ l) one ∙ sym (remarks_from-push 0 (length rs + 1) rs r (omega arith)) ∙ ap (remarks_from 0) (sym (ended_lf before)) in
    record {
      head_is = empty ∙ ap head (sym (rest_lf before));
      lines_are = number ∙ ap saturating_count (sym (length-append rs (r ∷ []))) ∙ ap (λ ls. saturating_count (length ls)) (sym (ended_lf before));
      count_is = counted _ (length (remarks before)) (length (remark_on new.lines old.head.items)) old.count new.count h.count_is count
          ∙ ap saturating_count (sym (length-append (remarks before) (remark_on new.lines old.head.items))) ∙ ap (λ l. saturating_count (length l)) more;
      text_is = lines_more _ old.count old.text.items new.text.items (remarks before) (remark_on new.lines old.head.items) (omega arith) h.count_is h.text_is text
          ∙ ap (λ l. flat_map (remark_line false) (take 10 l)) more;
      first_is = first ∙ ap (λ b. b || ((new.lines == 1) && tells_no_json old.head.items)) h.first_is ∙ ap (λ t. first_no_json rs || ((new.lines == 1) && tells_no_json t)) h.head_is
          ∙ first_more _ new.lines rs r (omega arith) number ∙ ap first_no_json (sym (ended_lf before));
    }
