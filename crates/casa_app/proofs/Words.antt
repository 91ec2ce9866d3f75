-- the words of a reply
use Rattle.std.proofs.Common.{◌≡◌, ℕ, suc, ◌+◌, ◌%◌, ◌^◌, ◌<◌, ◌∙◌, List, [], ◌∷◌, ◌++◌, drop, false, refl, ap, arith}
use Rattle.std.proofs.lemmas.Bool.{ne_eqb}
use Rattle.std.proofs.lemmas.Fmt.{decimal_by_steps}
use Rattle.std.specs.Prelude.{decimal}
use Rattle.std.specs.List.{after_first, list_any, position_or_len}
use Rattle.casa_session.proofs.Splitting.{or_false}
use Rattle.casa_app.specs.Remarks.{is_mark, word}

-- a text without a quotation mark
abbrev pub HasNoMark : List ℕ → Type 0
HasNoMark text = list_any is_mark text ≡ false

after_more : (p : ℕ) (d : ℕ) (xs : List ℕ) → drop (1 + p + 1) (d ∷ xs) ≡ drop (p + 1) xs
after_more p d xs = let e : 1 + p + 1 ≡ suc (p + 1) = omega arith in ap (λ n. drop n (d ∷ xs)) e

pub behind_text : (text rest : List ℕ) → HasNoMark text → after_first is_mark (text ++ rest) ≡ after_first is_mark rest
behind_text [] rest h = refl
behind_text (d ∷ ds) rest h =
    let (head, tail) = or_false (is_mark d) (list_any is_mark ds) h in
    rw head (after_more (position_or_len is_mark (ds ++ rest)) d (ds ++ rest) ∙ behind_text ds rest tail)

pub word_behind : (n : ℕ) (text rest : List ℕ) → HasNoMark text → word (suc n) (text ++ rest) ≡ word (suc n) rest
word_behind n text rest h = ap (word n) (behind_text text rest h)

no_mark_append : (xs ys : List ℕ) → HasNoMark xs → HasNoMark ys → HasNoMark (xs ++ ys)
no_mark_append [] ys h k = k
no_mark_append (x ∷ xs) ys h k = let (head, tail) = or_false (is_mark x) (list_any is_mark xs) h in rw head (no_mark_append xs ys tail k)

digit_no_mark : (n : ℕ) → HasNoMark ((48 + n) ∷ [])
digit_no_mark n = let e : is_mark (48 + n) ≡ false = ne_eqb (48 + n) 34 (omega arith) in rw e refl

pub decimal_no_mark : (n : ℕ) → n < 2 ^ 64 → HasNoMark (decimal n)
decimal_no_mark n small =
    decimal_by_steps (λ (n : ℕ) (ds : List ℕ). HasNoMark ds) (λ n lt. digit_no_mark n) (λ n ds more h. no_mark_append ds ((48 + n % 10) ∷ []) h (digit_no_mark (n % 10))) n small
