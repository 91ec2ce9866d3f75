-- laws of lines
use Rattle.std.proofs.Common.{◌≡◌, ℕ, ◌<◌, List, [], ◌∷◌, ◌++◌, length, cond, Bool, true, false, ◌||◌, refl, sym, ap, ◌∙◌, append-nil, append_assoc, length-append, arith}
use Rattle.std.proofs.lemmas.Bool.Decides.{nat_tests}
use Rattle.std.specs.List.{list_any}
use Rattle.casa_session.specs.Lines.{is_lf, ended_from, rest_from, if_any, ended_lines, lines_of, is_too_long, has_too_long, HasNoLf}

pub or_false : (a b : Bool) → a || b ≡ false → (a ≡ false) × (b ≡ false)
or_false true b h = absurd (cc)
or_false false b h = (refl, h)

ended_at : (t : Bool) (line : List ℕ) (x : ℕ) (xs ys : List ℕ) → ended_from [] (xs ++ ys) ≡ ended_from [] xs ++ ended_from (rest_from [] xs) ys
    → ended_from (line ++ x ∷ []) (xs ++ ys) ≡ ended_from (line ++ x ∷ []) xs ++ ended_from (rest_from (line ++ x ∷ []) xs) ys
    → cond t (line ∷ ended_from [] (xs ++ ys)) (ended_from (line ++ x ∷ []) (xs ++ ys)) ≡ cond t (line ∷ ended_from [] xs) (ended_from (line ++ x ∷ []) xs) ++ ended_from (cond t (rest_from [] xs) (rest_from (line ++ x ∷ []) xs)) ys
ended_at true line x xs ys p q = ap (λ l. line ∷ l) p
ended_at false line x xs ys p q = q

rest_at : (t : Bool) (line : List ℕ) (x : ℕ) (xs ys : List ℕ) → rest_from [] (xs ++ ys) ≡ rest_from (rest_from [] xs) ys
    → rest_from (line ++ x ∷ []) (xs ++ ys) ≡ rest_from (rest_from (line ++ x ∷ []) xs) ys
    → cond t (rest_from [] (xs ++ ys)) (rest_from (line ++ x ∷ []) (xs ++ ys)) ≡ rest_from (cond t (rest_from [] xs) (rest_from (line ++ x ∷ []) xs)) ys
rest_at true line x xs ys p q = p
rest_at false line x xs ys p q = q

pub ended_from-append : (line xs ys : List ℕ) → ended_from line (xs ++ ys) ≡ ended_from line xs ++ ended_from (rest_from line xs) ys
ended_from-append line [] ys = refl
ended_from-append line (x ∷ xs) ys = ended_at (is_lf x) line x xs ys (ended_from-append [] xs ys) (ended_from-append (line ++ x ∷ []) xs ys)

pub rest_from-append : (line xs ys : List ℕ) → rest_from line (xs ++ ys) ≡ rest_from (rest_from line xs) ys
rest_from-append line [] ys = refl
rest_from-append line (x ∷ xs) ys = rest_at (is_lf x) line x xs ys (rest_from-append [] xs ys) (rest_from-append (line ++ x ∷ []) xs ys)

-- bytes without LF end no line
pub none_ended : (line xs : List ℕ) → HasNoLf xs → ended_from line xs ≡ []
none_ended line [] h = refl
none_ended line (x ∷ xs) h = let (head, tail) = or_false (is_lf x) (list_any is_lf xs) h in rw head (none_ended (line ++ x ∷ []) xs tail)

-- and go on with the line before them
pub all_rest : (line xs : List ℕ) → HasNoLf xs → rest_from line xs ≡ line ++ xs
all_rest line [] h = sym (append-nil line)
all_rest line (x ∷ xs) h =
    let (head, tail) = or_false (is_lf x) (list_any is_lf xs) h in
    rw head (all_rest (line ++ x ∷ []) xs tail ∙ append_assoc line (x ∷ []) xs)

pub lines_of-append : (xs ys : List ℕ) → rest_from [] xs ≡ [] → lines_of (xs ++ ys) ≡ ended_lines xs ++ lines_of ys
lines_of-append xs ys h =
    let ended : ended_lines (xs ++ ys) ≡ ended_lines xs ++ ended_lines ys = ended_from-append [] xs ys ∙ ap (λ l. ended_lines xs ++ ended_from l ys) h in
    let rest : rest_from [] (xs ++ ys) ≡ rest_from [] ys = rest_from-append [] xs ys ∙ ap (λ l. rest_from l ys) h in
    rw (ended, rest) (append_assoc (ended_lines xs) (ended_lines ys) (if_any (rest_from [] ys)))

one_ended : (line ys : List ℕ) → HasNoLf line → ended_lines (line ++ 10 ∷ ys) ≡ line ∷ ended_lines ys
one_ended line ys h = ended_from-append [] line (10 ∷ ys) ∙ rw (none_ended [] line h, all_rest [] line h) refl

rest_after_one : (line ys : List ℕ) → rest_from [] (line ++ 10 ∷ ys) ≡ rest_from [] ys
rest_after_one line ys = rest_from-append [] line (10 ∷ ys)

pub line_first : (line ys : List ℕ) → HasNoLf line → lines_of (line ++ 10 ∷ ys) ≡ line ∷ lines_of ys
line_first line ys h = rw (one_ended line ys h, rest_after_one line ys) refl

if_any-some : (line : List ℕ) → 0 < length line → if_any line ≡ line ∷ []
if_any-some [] h = absurd (omega arith)
if_any-some (b ∷ bs) h = refl

pub line_only : (line : List ℕ) → HasNoLf line → 0 < length line → lines_of line ≡ line ∷ []
line_only line h some = rw (none_ended [] line h, all_rest [] line h) (if_any-some line some)

short_if_any : (part : List ℕ) → is_too_long part ≡ false → has_too_long (if_any part) ≡ false
short_if_any [] h = refl
short_if_any (b ∷ bs) h = rw h refl

pub short_part : (part : List ℕ) → HasNoLf part → is_too_long part ≡ false → has_too_long (lines_of part) ≡ false
short_part part h short = rw (none_ended [] part h, all_rest [] part h) (short_if_any part short)

pub ended_more : (xs line : List ℕ) → rest_from [] xs ≡ [] → HasNoLf line → ended_lines (xs ++ (line ++ 10 ∷ [])) ≡ ended_lines xs ++ line ∷ []
ended_more xs line e h = ended_from-append [] xs (line ++ 10 ∷ []) ∙ ap (λ l. ended_lines xs ++ ended_from l (line ++ 10 ∷ [])) e ∙ ap (λ l. ended_lines xs ++ l) (one_ended line [] h)

pub whole_more : (xs line : List ℕ) → rest_from [] xs ≡ [] → rest_from [] (xs ++ (line ++ 10 ∷ [])) ≡ []
whole_more xs line e = rest_from-append [] xs (line ++ 10 ∷ []) ∙ rest_from-append (rest_from [] xs) line (10 ∷ [])

pub ended_kept : (xs part : List ℕ) → HasNoLf part → ended_lines (xs ++ part) ≡ ended_lines xs
ended_kept xs part h = ended_from-append [] xs part ∙ ap (λ l. ended_lines xs ++ l) (none_ended (rest_from [] xs) part h) ∙ append-nil (ended_lines xs)

too_long_more : (line : List ℕ) (b : ℕ) → is_too_long line ≡ true → is_too_long (line ++ b ∷ []) ≡ true
too_long_more line b h = simp length-append (grind (arith, nat_tests))

long_at : (t : Bool) (b : ℕ) (line bs : List ℕ) → is_too_long line ≡ true
    → (first : List ℕ) × (tail : List (List ℕ)) × (ended_from (line ++ b ∷ []) bs ++ if_any (rest_from (line ++ b ∷ []) bs) ≡ first ∷ tail) × (is_too_long first ≡ true)
    → (first : List ℕ) × (tail : List (List ℕ)) × (cond t (line ∷ ended_from [] bs) (ended_from (line ++ b ∷ []) bs) ++ if_any (cond t (rest_from [] bs) (rest_from (line ++ b ∷ []) bs)) ≡ first ∷ tail) × (is_too_long first ≡ true)
long_at true b line bs h next = (line, ended_from [] bs ++ if_any (rest_from [] bs), refl, h)
long_at false b line bs h next = next

-- a line that is too long stays so, whatever comes after it
long_from : (rest line : List ℕ) → is_too_long line ≡ true
    → (first : List ℕ) × (tail : List (List ℕ)) × (ended_from line rest ++ if_any (rest_from line rest) ≡ first ∷ tail) × (is_too_long first ≡ true)
long_from [] [] h = absurd (cc)
long_from [] (x ∷ xs) h = (x ∷ xs, [], refl, h)
long_from (b ∷ bs) line h = long_at (is_lf b) b line bs h (long_from bs (line ++ b ∷ []) (too_long_more line b h))

pub long_first : (line rest : List ℕ) → HasNoLf line → is_too_long line ≡ true → (first : List ℕ) × (tail : List (List ℕ)) × (lines_of (line ++ rest) ≡ first ∷ tail) × (is_too_long first ≡ true)
long_first line rest h long =
    let (first, tail, e, t) = long_from rest line long in
    let ended : ended_lines (line ++ rest) ≡ ended_from line rest = ended_from-append [] line rest ∙ rw (none_ended [] line h, all_rest [] line h) refl in
    let after : rest_from [] (line ++ rest) ≡ rest_from line rest = rest_from-append [] line rest ∙ rw (all_rest [] line h) refl in
    (first, tail, rw (ended, after) e, t)

pub has_too_long-append : (xs ys : List (List ℕ)) → has_too_long xs ≡ false → has_too_long (xs ++ ys) ≡ has_too_long ys
has_too_long-append [] ys h = refl
has_too_long-append (x ∷ xs) ys h =
    let (head, tail) = or_false (is_too_long x) (list_any is_too_long xs) h in rw head (has_too_long-append xs ys tail)
