-- the part of some bytes before the first LF, and what is left after it
use Rattle.std.proofs.Common.{◌≡◌, ℕ, suc, ◌+◌, ◌-◌, ◌<◌, ◌≤◌, List, [], ◌∷◌, ◌++◌, length, take, drop, drop-drop, get_or, get_or-take, take-append-drop, Bool, true, false, ◌||◌, Option, Some, None, refl, sym, ap, subst, ◌∙◌, arith}
use Rattle.std.proofs.Math.Seq.{drop-cons, take-length}
use Rattle.std.proofs.lemmas.Bool.{eqb-true, false_from_ne_true}
use Rattle.std.proofs.lemmas.List.{drop-take, length-take-le}
use Rattle.std.proofs.lemmas.List.Elements.{All-from_get_or}
use Rattle.std.proofs.lemmas.List.Folds.{list_any_none}
use Rattle.std.specs.Prelude.{MatchOption}
use Rattle.std.specs.List.{list_any, slice_range}
use Rattle.memchr.specs.Find.{IsFirstByte, Nowhere, Passes, is_byte}
use Rattle.casa_session.specs.Lines.{is_lf, HasNoLf, IsFirstPart}

other_at : (bs : List ℕ) (n i : ℕ) → i < n → ¬ Passes (is_byte 10) bs i → is_lf (get_or (take n bs) i 0) ≡ false
other_at bs n i low other = false_from_ne_true (is_lf (get_or (take n bs) i 0)) (λ lf. other (rw (get_or-take n bs i 0 low) at lf))

-- the first n bytes hold no LF where it stands at none of these places
no_lf_before : (bs : List ℕ) (n : ℕ) → n ≤ length bs → Nowhere (Passes (is_byte 10) bs) 0 n → HasNoLf (take n bs)
no_lf_before bs n le none =
    let len : length (take n bs) ≡ n = length-take-le n bs le in
    list_any_none is_lf (take n bs) (All-from_get_or (λ b. is_lf b ≡ false) (take n bs) 0 (λ i below. other_at bs n i (omega arith) (none i (omega arith) (omega arith))))

-- the first LF stands between the bytes before it and those after it
lf_at : (bs : List ℕ) (at : ℕ) → at < length bs → Passes (is_byte 10) bs at → bs ≡ take at bs ++ 10 ∷ drop (at + 1) bs
lf_at bs at below lf =
    let next : suc at ≡ at + 1 = omega arith in
    let rest : drop at bs ≡ 10 ∷ drop (at + 1) bs = rw (eqb-true (get_or bs at 0) 10 lf, next) at (drop-cons bs at 0 below) in
    sym (take-append-drop at bs) ∙ ap (λ l. take at bs ++ l) rest

pub first_part_lem : (bs : List ℕ) (first : Option ℕ) → IsFirstByte (is_byte 10) bs first
    → MatchOption first (IsFirstPart bs bs false) (λ at. IsFirstPart bs (take at bs) true)
first_part_lem bs None none = record { whole = subst HasNoLf (take-length bs) (no_lf_before bs (length bs) (omega arith) none); split = refl }
first_part_lem bs (Some at) (first, lf) =
    let len : length (take at bs) ≡ at = length-take-le at bs (omega (arith, first.high)) in
    record { whole = no_lf_before bs at (omega (arith, first.high)) first.before; split = rw len (lf_at bs at first.high lf) }

-- what is pending once k bytes were given
pub pending_after : (b : List ℕ) (s e k : ℕ) → s + k ≤ e → drop k (slice_range b s e) ≡ slice_range b (s + k) e
pending_after b s e k h = let width : e - s ≡ k + (e - (s + k)) = omega arith in rw (width, drop-take, drop-drop) refl

no_lf_append_at : (x y z : Bool) → x || y ≡ false → (y ≡ false → z ≡ false) → x || z ≡ false
no_lf_append_at true y z h f = h
no_lf_append_at false y z h f = f h

pub no_lf_append : (xs ys : List ℕ) → HasNoLf xs → HasNoLf ys → HasNoLf (xs ++ ys)
no_lf_append [] ys h k = k
no_lf_append (x ∷ xs) ys h k = no_lf_append_at (is_lf x) (list_any is_lf xs) (list_any is_lf (xs ++ ys)) h (λ e. no_lf_append xs ys e k)

pub no_lf_joined : (line xs ys : List ℕ) → line ≡ xs ++ ys → HasNoLf xs → HasNoLf ys → HasNoLf line
no_lf_joined line xs ys e h k = rw e (no_lf_append xs ys h k)
