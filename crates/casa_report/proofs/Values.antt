-- values with a comma between each two
use Rattle.std.proofs.Common.{◌≡◌, ◌∙◌, ℕ, List, [], ◌∷◌, ◌++◌, append_assoc, append-nil, ap, sym}
use Rattle.std.specs.Prelude.{map}
use Rattle.std.specs.List.{join_with_byte}
use Rattle.jiff_core.specs.declared.civil.date.Date.{Date}
use Rattle.casa_report.specs.declared.csv.Value.{Value}
use Rattle.casa_report.specs.Values.{more_values, value_text, values_line}

-- a value, and the others behind it
behind_first : (day : Date) (v : Value) (vs : List Value) → join_with_byte 44 (map (value_text day) (v ∷ vs)) ≡ value_text day v ++ more_values day vs
behind_first day v [] = sym (append-nil (value_text day v))
behind_first day v (w ∷ ws) = ap (λ t. value_text day v ++ (44 ∷ t)) (behind_first day w ws)

-- the first value, the others and the line's end are the line
pub line_written : (day : Date) (v : Value) (vs : List Value) (out one more all : List ℕ) → one ≡ out ++ value_text day v → more ≡ one ++ more_values day vs
    → all ≡ more ++ 10 ∷ [] → all ≡ out ++ values_line day (v ∷ vs)
line_written day v vs out one more all first others end =
    end
    ∙ ap (λ t. t ++ 10 ∷ []) (others ∙ ap (λ t. t ++ more_values day vs) first ∙ append_assoc out (value_text day v) (more_values day vs) ∙ ap (λ t. out ++ t) (sym (behind_first day v vs)))
    ∙ append_assoc out (join_with_byte 44 (map (value_text day) (v ∷ vs))) (10 ∷ [])
