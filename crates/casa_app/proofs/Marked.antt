-- what is said where a byte order mark stands before the first line
use Rattle.std.proofs.Common.{◌≡◌, ℕ, zero, suc, ◌+◌, ◌==◌, ◌≤◌, ◌<◌, ◌∙◌, List, [], ◌∷◌, ◌++◌, length, take, drop, Bool, true, false, ◌||◌, cond, min, refl, sym, ap, subst, arith}
use Rattle.std.proofs.lemmas.Bool.{ne_eqb}
use Rattle.std.proofs.lemmas.Fmt.{decimal_digit}
use Rattle.std.proofs.lemmas.Slice.Eq.{bytes_eq-Decides}
use Rattle.std.specs.Prelude.{codes}
use Rattle.std.specs.List.{flat_map}
use Rattle.casa_session.specs.Sending.{saturating_count}
use Rattle.casa_app.specs.Notes.{first_no_json}
use Rattle.casa_app.specs.Remarks.{Remark, head, remark_line, remark_on, remarks_from, tells_fault, tells_no_json, tells_refusal}

abbrev lines : Bool → List Remark → List ℕ
lines marked rs = flat_map (remark_line marked) rs

not_told : (r : Remark) → (r.number == 1) ≡ false → remark_line true r ≡ remark_line false r
not_told r later = rw later refl

one_later : (t : Bool) (r : Remark) (k : ℕ) (rest : List Remark) → (r.number == 1) ≡ false → ((j : ℕ) → lines true (take j rest) ≡ lines false (take j rest))
    → lines true (take k (cond t (r ∷ []) [] ++ rest)) ≡ lines false (take k (cond t (r ∷ []) [] ++ rest))
one_later false r k rest later ih = ih k
one_later true r zero rest later ih = refl
one_later true r (suc k) rest later ih = ap (λ l. l ++ lines true (take k rest)) (not_told r later) ∙ ap (λ l. remark_line false r ++ l) (ih k)

number_later : (most n : ℕ) → 1 < most → 1 ≤ n → (min (n + 1) most == 1) ≡ false
number_later most n more h = ne_eqb (min (n + 1) most) 1 (omega arith)

-- the mark is told of the first line alone
all_later : (n k : ℕ) (rs : List (List ℕ)) → 1 ≤ n → lines true (take k (remarks_from n rs)) ≡ lines false (take k (remarks_from n rs))
all_later n zero [] h = refl
all_later n (suc k) [] h = refl
all_later n k (r ∷ rs) h =
    one_later (tells_fault (head r) || tells_refusal (head r)) (record { number = saturating_count (n + 1); reply = head r }) k (remarks_from (n + 1) rs) (number_later _ n (omega arith) h)
    (λ j. all_later (n + 1) j rs (omega arith))

abbrev no_json : List ℕ
no_json = codes "{\"fault\":\"NotJson\"}"

abbrev first_remark : Remark
first_remark = record { number = 1; reply = no_json }

line_marked : remark_line true first_remark ≡ codes "casa: line 1: NotJson (a byte order mark stands before it)\n"
line_marked = ap (λ d. codes "casa: line " ++ (d ++ codes ": NotJson (a byte order mark stands before it)\n")) (decimal_digit 1 (omega arith))

line_unmarked : remark_line false first_remark ≡ codes "casa: line 1: NotJson\n"
line_unmarked = ap (λ d. codes "casa: line " ++ (d ++ codes ": NotJson\n")) (decimal_digit 1 (omega arith))

first_marked : (rest : List Remark) → lines true rest ≡ lines false rest
    → lines true (first_remark ∷ rest) ≡ codes "casa: line 1: NotJson (a byte order mark stands before it)\n" ++ drop 22 (lines false (first_remark ∷ rest))
first_marked rest same =
    ap (λ l. l ++ lines true rest) line_marked ∙ ap (λ l. codes "casa: line 1: NotJson (a byte order mark stands before it)\n" ++ l) same
    ∙ ap (λ l. codes "casa: line 1: NotJson (a byte order mark stands before it)\n" ++ drop 22 (l ++ lines false rest)) (sym line_unmarked)

pub marked_lines : (rs : List (List ℕ)) → first_no_json rs ≡ true
    → lines true (take 10 (remarks_from 0 rs)) ≡ codes "casa: line 1: NotJson (a byte order mark stands before it)\n" ++ drop 22 (lines false (take 10 (remarks_from 0 rs)))
marked_lines [] h = absurd (cc)
marked_lines (r ∷ rs) h =
    let e : head r ≡ no_json = (bytes_eq-Decides (head r) no_json).0 h in
    subst (λ (x : List ℕ). lines true (take 10 (remark_on 1 x ++ remarks_from 1 rs))
    ≡ codes "casa: line 1: NotJson (a byte order mark stands before it)\n" ++ drop 22 (lines false (take 10 (remark_on 1 x ++ remarks_from 1 rs)))) (sym e)
    (first_marked (take 9 (remarks_from 1 rs)) (all_later 1 9 rs (omega arith)))

-- and there are those bytes
pub marked_length : (rs : List (List ℕ)) → first_no_json rs ≡ true → 22 ≤ length (lines false (take 10 (remarks_from 0 rs)))
marked_length [] h = absurd (cc)
marked_length (r ∷ rs) h =
    let e : head r ≡ no_json = (bytes_eq-Decides (head r) no_json).0 h in
    let rest = take 9 (remarks_from 1 rs) in
    let long : 22 ≤ length (lines false (first_remark ∷ rest)) = subst (λ (l : List ℕ). 22 ≤ length (l ++ lines false rest)) (sym line_unmarked) (omega arith) in
    subst (λ (x : List ℕ). 22 ≤ length (lines false (take 10 (remark_on 1 x ++ remarks_from 1 rs)))) (sym e) long

first_unmarked : (t : Bool) (reply : List ℕ) (k : ℕ) (rest : List Remark) → tells_no_json reply ≡ false → ((j : ℕ) → lines true (take j rest) ≡ lines false (take j rest))
    → lines true (take k (cond t (record { number = 1; reply = reply } ∷ []) [] ++ rest)) ≡ lines false (take k (cond t (record { number = 1; reply = reply } ∷ []) [] ++ rest))
first_unmarked false reply k rest other ih = ih k
first_unmarked true reply zero rest other ih = refl
first_unmarked true reply (suc k) rest other ih =
    let r : Remark = record { number = 1; reply = reply } in
    let same : remark_line true r ≡ remark_line false r = rw other refl in
    ap (λ l. l ++ lines true (take k rest)) same ∙ ap (λ l. remark_line false r ++ l) (ih k)

pub unmarked_lines : (rs : List (List ℕ)) → first_no_json rs ≡ false → lines true (take 10 (remarks_from 0 rs)) ≡ lines false (take 10 (remarks_from 0 rs))
unmarked_lines [] h = refl
unmarked_lines (r ∷ rs) h =
    first_unmarked (tells_fault (head r) || tells_refusal (head r)) (head r) 10 (remarks_from 1 rs) h (λ j. all_later 1 j rs (omega arith))
