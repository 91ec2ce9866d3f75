-- entries in a row, the first of which may stand alone
use Rattle.std.proofs.Common.{◌≡◌, List, [], ◌∷◌, ◌++◌, length, get_or, arith, refl, sym, ap, ◌∙◌, Option, None, Some, unwrap_or}
use Rattle.casa_item.specs.Row.{IsRow}

only_one : {E : Type 0} (es : List E) (d : E) → length es ≡ 1 → get_or es 0 d ∷ [] ≡ es
only_one [] d h = absurd (omega (arith, h))
only_one (e ∷ []) d h = refl
only_one (e ∷ f ∷ es) d h = absurd (omega (arith, h))

-- the one that stood alone, behind the others, is the row
pub one_moved : {E : Type 0} (alone : Option (List E)) (others one : List E) (d : E) → IsRow alone others
    → alone ≡ Some one → others ++ get_or one 0 d ∷ [] ≡ unwrap_or alone others
one_moved None others one d row is = cc
one_moved (Some es) others one d row is =
    let same : es ≡ one = cc in
    ap (λ fs. fs ++ get_or one 0 d ∷ []) row.1 ∙ only_one one d (ap length (sym same) ∙ row.0) ∙ sym same
