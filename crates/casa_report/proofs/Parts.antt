-- a text that is put together of its parts, one behind the other
use Rattle.std.proofs.Common.{◌≡◌, ℕ, ◌∙◌, ap, List, ◌++◌}

pub seven_parts : (a b c d e f g p q r s t u v : List ℕ) → p ≡ a → q ≡ p ++ b → r ≡ q ++ c → s ≡ r ++ d → t ≡ s ++ e → u ≡ t ++ f → v ≡ u ++ g
    → v ≡ (((((a ++ b) ++ c) ++ d) ++ e) ++ f) ++ g
seven_parts a b c d e f g p q r s t u v pa qb rc sd te uf vg =
    vg ∙ ap (λ z. z ++ g) (uf ∙ ap (λ z. z ++ f) (te ∙ ap (λ z. z ++ e) (sd ∙ ap (λ z. z ++ d) (rc ∙ ap (λ z. z ++ c) (qb ∙ ap (λ z. z ++ b) pa)))))
