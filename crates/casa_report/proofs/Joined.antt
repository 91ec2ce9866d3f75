-- columns that are appended one after the other make a line
use Rattle.std.proofs.Common.{◌≡◌, ℕ, List, [], ◌∷◌, ◌++◌, refl, sym, ap, ◌∙◌, append_assoc}
use Rattle.std.specs.List.{fold, join_with_byte}

-- a text and its columns, each ended by a space
abbrev pub with_columns : List ℕ → List (List ℕ) → List ℕ
with_columns line columns = fold (λ (line : List ℕ) (column : List ℕ). line ++ (column ++ 32 ∷ [])) line columns

-- one column more behind what a line is
pub one_column : {line next before : List ℕ} (column : List ℕ) → next ≡ line ++ (column ++ 32 ∷ []) → line ≡ before → next ≡ before ++ (column ++ 32 ∷ [])
one_column column is was = is ∙ ap (λ (l : List ℕ). l ++ (column ++ 32 ∷ [])) was

-- a line whose first column is this one
one_more : (column : List ℕ) (columns : List (List ℕ)) (last : List ℕ)
    → (column ++ 32 ∷ []) ++ (join_with_byte 32 (columns ++ last ∷ []) ++ 10 ∷ [])
    ≡ join_with_byte 32 (column ∷ (columns ++ last ∷ [])) ++ 10 ∷ []
one_more column [] last =
    append_assoc column (32 ∷ []) (last ++ 10 ∷ []) ∙ sym (append_assoc column (32 ∷ last) (10 ∷ []))
one_more column (next ∷ columns) last =
    let rest : List ℕ = join_with_byte 32 (next ∷ (columns ++ last ∷ [])) in
    append_assoc column (32 ∷ []) (rest ++ 10 ∷ []) ∙ sym (append_assoc column (32 ∷ rest) (10 ∷ []))

pub joined : (line : List ℕ) (columns : List (List ℕ)) (last : List ℕ)
    → with_columns line columns ++ (last ++ 10 ∷ []) ≡ line ++ (join_with_byte 32 (columns ++ last ∷ []) ++ 10 ∷ [])
joined line [] last = refl
joined line (column ∷ columns) last =
    joined (line ++ (column ++ 32 ∷ [])) columns last
    ∙ append_assoc line (column ++ 32 ∷ []) (join_with_byte 32 (columns ++ last ∷ []) ++ 10 ∷ [])
    ∙ ap (λ text. line ++ text) (one_more column columns last)
