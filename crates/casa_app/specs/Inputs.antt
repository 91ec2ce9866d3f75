-- to believe: whether a byte order mark stands before an input
use Rattle.std.specs.Prelude.{ℕ, List, [], ◌∷◌, Bool, bytes_eq}

-- these first three bytes of an input are the byte order mark of UTF-8
abbrev pub is_marked : List ℕ → Bool
is_marked first = bytes_eq first (239 ∷ 187 ∷ 191 ∷ [])
