-- what a look-up finds
use Rattle.std.proofs.Common.{◌≡◌, true, false, refl, subst}
use Rattle.std.specs.Ordering.{is_eq}
use Rattle.casa_filing.specs.Text.{Text, same_text}
use Rattle.casa_filing.proofs.Entries.{text_cmp, itself, named, apart}

-- names are the same for a look-up as for a test
pub same_test : (k q : Text) → is_eq (text_cmp q k) ≡ same_text k q
same_test k q =
    elim (same_text k q) as (λ b. same_text k q ≡ b → is_eq (text_cmp q k) ≡ b) [
      | true ↦ λ e. subst (λ (t : Text). is_eq (text_cmp t k) ≡ true) (named k q e) (itself k)
      | false ↦ λ e. apart k q e
    ] refl
