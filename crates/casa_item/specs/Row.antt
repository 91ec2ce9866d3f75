-- inner contracts: entries in a row
use Rattle.std.specs.Prelude.{◌≡◌, List, [], length, MatchOption, ⊤, Option}

-- an entry that stands alone is one, and there are no others
abbrev pub IsRow : {E : Type 0} → Option (List E) → List E → Type 0
IsRow alone others = MatchOption alone ⊤ (λ one. (length one ≡ 1) × (others ≡ []))
