-- one pair more
use Rattle.std.proofs.Common.{◌≡◌, ◌∙◌, ℕ, ◌+◌, suc, List, [], ◌∷◌, ◌++◌, Option, Result, Ok, Err, refl, sym, ap, append_assoc}
use Rattle.std.specs.Prelude.{option_to_list}
use Rattle.casa_import.specs.declared.columns.EntryColumns.{EntryColumns}
use Rattle.casa_traffic.specs.declared.titles.TitleFault.{TitleFault}
use Rattle.casa_traffic.specs.Bind.{◌>>=◌}
use Rattle.casa_traffic.specs.Steps.{and_pairs}
use Rattle.casa_traffic.specs.Titles.{Header, pair, pairs}

moved : (entries here : List EntryColumns) (more : Result (List EntryColumns) TitleFault)
    → (more >>= (λ xs. Ok ((entries ++ here) ++ xs))) ≡ ((more >>= (λ xs. Ok (here ++ xs))) >>= (λ xs. Ok (entries ++ xs)))
moved entries here (Ok xs) = ap Ok (append_assoc entries here xs)
moved entries here (Err fault) = refl

pub pair_more : (entries : List EntryColumns) (header : Header) (first k : ℕ) (entry : Option EntryColumns) → Ok entry ≡ pair header first
    → and_pairs (entries ++ option_to_list entry) header (first + 1) k ≡ and_pairs entries header first (suc k)
unfolding pairs
pair_more entries header first k entry is =
    moved entries (option_to_list entry) (pairs header (first + 1) k)
    ∙ ap (λ r. (r >>= (λ e. pairs header (first + 1) k >>= (λ xs. Ok (option_to_list e ++ xs)))) >>= (λ xs. Ok (entries ++ xs))) is

pub nothing_before : (more : Result (List EntryColumns) TitleFault) → (more >>= (λ xs. Ok ([] ++ xs))) ≡ more
nothing_before (Ok xs) = refl
nothing_before (Err fault) = refl
