-- a name in its array
use Rattle.std.proofs.Common.{◌≡◌, ℕ, ◌+◌, ◌-◌, ◌≤◌, List, ◌++◌, length, true, take, replicate, sym, ap, ◌∙◌, arith, subst, length-append}
use Rattle.std.proofs.Math.Seq.{drop-append_seam, take-append_seam}
use Rattle.std.proofs.lemmas.List.{length-replicate}
use Rattle.std.proofs.lemmas.Bool.{and_parts, leb-true}
use Rattle.casa_filing.specs.Text.{is_name}
use Rattle.casa_filing.specs.NameInside.{IsInside}

short : (t : List ℕ) → is_name t ≡ true → length t ≤ 10
short t h = leb-true (length t) 10 (and_parts _ _ (and_parts _ _ h).1).0

pub inside : {Kind : Type 0} (t rest : List ℕ) → is_name t ≡ true → rest ≡ replicate (10 - length t) 0 → IsInside {Kind = Kind} (record { bytes = t ++ rest; len = length t; kind = record {} })
inside {Kind = Kind} t rest h e =
    let front : take (length t) (t ++ rest) ≡ t = take-append_seam t rest in
    let size : length (t ++ rest) ≡ 10 = length-append t rest ∙ ap (λ n. length t + n) (ap length e ∙ length-replicate (10 - length t) 0) ∙ omega (arith, short t h) in
    record {
      name = subst (λ (u : List ℕ). is_name u ≡ true) (sym front) h;
      few = short t h;
      size = size;
      rest = drop-append_seam t rest ∙ e;
    }
