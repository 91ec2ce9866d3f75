-- one seal is of the same entries
use Rattle.std.proofs.Common.{◌≡◌, ◌∙◌, ℕ, List, [], Bool, true, refl, sym, subst, Option, None, Some}
use base.Stored.{gnum, gcons, code_l, coded×, coded_list, coded_ℕ, coded_via}
use Rattle.casa_filing.specs.Text.{Text}
use Rattle.casa_item.specs.Numbers.{told-before}
use Rattle.casa_table.specs.Sealed.{numbers_of, IsSealOf, IsSameSeal}
use Rattle.casa_table.specs.Same.{same_version}

pub told_of : {V : Type 0} (numbers : V → List ℕ) → ((v w : V) → numbers v ≡ numbers w → v ≡ w)
    → (es fs : List (Text × V)) → numbers_of numbers es ≡ numbers_of numbers fs → es ≡ fs
told_of {V} numbers told es fs h =
    let code = λ (e : Text × V). gcons (code_l gnum e.0) (code_l gnum (numbers e.1)) in
    (coded_list (coded× (coded_list coded_ℕ) (coded_via (coded_list coded_ℕ) numbers told))).inj es fs
    (told-before (code_l code es) (code_l code fs) [] [] h).0

-- what has the same seals has the same entries
pub same_sealed : {V : Type 0} (numbers : V → List ℕ) → ((v w : V) → numbers v ≡ numbers w → v ≡ w)
    → (one other : Option (ℕ × List ℕ)) (es fs : List (Text × V)) → IsSameSeal one other
    → IsSealOf numbers es one → IsSealOf numbers fs other → es ≡ fs
same_sealed numbers told None other es fs (is, there) ours theirs = absurd (cc)
same_sealed numbers told (Some s) other es fs same ours theirs =
    let also = subst (IsSealOf numbers fs) (sym same.0) theirs in
    told_of numbers told es fs (sym ours ∙ also)

-- a version is the same as itself, and so is none
pub same_itself : {V : Type 0} (is_same : V → V → Bool) → ((v : V) → is_same v v ≡ true)
    → (w : Option V) → same_version is_same w w ≡ true
same_itself is_same same None = refl
same_itself is_same same (Some v) = same v
