-- comma-separated values are read back
use Rattle.std.proofs.Common.{◌≡◌, ◌∙◌, ℕ, ◌<◌, List, [], ◌∷◌, ◌++◌, length, append_assoc, refl, ap, false, arith}
use Rattle.std.specs.Prelude.{All, map}
use Rattle.std.specs.List.{AllByRecursion, flat_map, join_with_byte, slice_split}
use Rattle.std.proofs.lemmas.List.Elements.{All-append, All-cons, All-nil, recursion_from_All}
use Rattle.std.proofs.lemmas.List.Splits.{slice_split_at, slice_split_none}
use Rattle.casa_filing.specs.Text.{Text}
use Rattle.casa_report.specs.Csv.{csv_line}
use Rattle.casa_report.specs.CsvReading.{IsPlain, IsPlainRecord, but_last, is_comma, is_line_end, read_csv}

abbrev IsNoComma : ℕ → Type 0
IsNoComma byte = is_comma byte ≡ false

abbrev IsNoLineEnd : ℕ → Type 0
IsNoLineEnd byte = is_line_end byte ≡ false

abbrev IsPlainByte : ℕ → Type 0
IsPlainByte byte = (is_comma byte ≡ false) × (is_line_end byte ≡ false)

no_commas : (t : Text) → AllByRecursion IsPlainByte t → All IsNoComma t
no_commas [] h = All-nil IsNoComma
no_commas (b ∷ bs) h = All-cons IsNoComma b bs h.0.0 (no_commas bs h.1)

no_line_ends : (t : Text) → AllByRecursion IsPlainByte t → All IsNoLineEnd t
no_line_ends [] h = All-nil IsNoLineEnd
no_line_ends (b ∷ bs) h = All-cons IsNoLineEnd b bs h.0.1 (no_line_ends bs h.1)

-- a line has no line end but its own
one_line : (vs : List Text) → AllByRecursion IsPlain vs → All IsNoLineEnd (join_with_byte 44 vs)
one_line [] h = All-nil IsNoLineEnd
one_line (v ∷ []) h = no_line_ends v (recursion_from_All IsPlainByte v h.0)
one_line (v ∷ w ∷ ws) h =
    All-append IsNoLineEnd v (44 ∷ join_with_byte 44 (w ∷ ws)) (no_line_ends v (recursion_from_All IsPlainByte v h.0)) (All-cons IsNoLineEnd 44 (join_with_byte 44 (w ∷ ws)) refl (one_line (w ∷ ws) h.1))

-- a line is read as its values
values_back : (vs : List Text) → 0 < length vs → AllByRecursion IsPlain vs → slice_split is_comma (join_with_byte 44 vs) ≡ vs
values_back [] some h = absurd (omega arith)
values_back (v ∷ []) some h = slice_split_none is_comma v (no_commas v (recursion_from_All IsPlainByte v h.0))
values_back (v ∷ w ∷ ws) some h =
    slice_split_at is_comma v 44 (join_with_byte 44 (w ∷ ws)) (no_commas v (recursion_from_All IsPlainByte v h.0)) refl
    ∙ ap (λ parts. v ∷ parts) (values_back (w ∷ ws) (omega arith) h.1)

-- the lines, and what is behind the last one
lines_back : (rs : List (List Text)) → AllByRecursion IsPlainRecord rs → slice_split is_line_end (flat_map csv_line rs) ≡ map (join_with_byte 44) rs ++ [] ∷ []
lines_back [] h = refl
lines_back (r ∷ rs) h =
    ap (slice_split is_line_end) (append_assoc (join_with_byte 44 r) (10 ∷ []) (flat_map csv_line rs))
    ∙ slice_split_at is_line_end (join_with_byte 44 r) 10 (flat_map csv_line rs) (one_line r (recursion_from_All IsPlain r h.0.1)) refl
    ∙ ap (λ lines. join_with_byte 44 r ∷ lines) (lines_back rs h.1)

without_last : (xs : List Text) → but_last (xs ++ [] ∷ []) ≡ xs
without_last [] = refl
without_last (x ∷ []) = refl
without_last (x ∷ y ∷ ys) = ap (λ zs. x ∷ zs) (without_last (y ∷ ys))

each_back : (rs : List (List Text)) → AllByRecursion IsPlainRecord rs → map (slice_split is_comma) (map (join_with_byte 44) rs) ≡ rs
each_back [] h = refl
each_back (r ∷ rs) h =
    ap (λ values. values ∷ map (slice_split is_comma) (map (join_with_byte 44) rs)) (values_back r h.0.0 (recursion_from_All IsPlain r h.0.1))
    ∙ ap (λ records. r ∷ records) (each_back rs h.1)

pub read_back : (rs : List (List Text)) → All IsPlainRecord rs → read_csv (flat_map csv_line rs) ≡ rs
read_back rs h =
    let all = recursion_from_All IsPlainRecord rs h in
    ap (λ lines. map (slice_split is_comma) (but_last lines)) (lines_back rs all)
    ∙ ap (map (slice_split is_comma)) (without_last (map (join_with_byte 44) rs))
    ∙ each_back rs all
