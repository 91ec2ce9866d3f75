-- to believe: sources of connections
use Rattle.std.specs.Prelude.{◌≡◌, List, [], ◌++◌, Option, None, Some, IfSome, ⊤}

-- of the connections that are known to come these are the first, and the others are left
abbrev pub Gives : {X : Type 0} → (before after : Option (List X)) → List X → Type 0
Gives None after xs = ⊤
Gives (Some all) None xs = ⊥
Gives (Some all) (Some left) xs = all ≡ xs ++ left

-- no connection is left of those that are known to come
abbrev pub IsExhausted : {X : Type 0} → Option (List X) → Type 0
IsExhausted coming = IfSome coming (λ left. left ≡ [])
