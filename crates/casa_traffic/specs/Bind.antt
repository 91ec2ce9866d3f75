-- to believe: what was found, and then what follows from it
use Rattle.std.specs.Prelude.{Option, None, Some, Result, Ok, Err}

-- the first fault stands
infixl 10 ◌>>=◌
abbrev pub ◌>>=◌ : {A B E : Type 0} → Result A E → (A → Result B E) → Result B E
(Ok x) >>= next = next x
(Err fault) >>= next = Err fault

-- two things that may be there stand in a relation: both are there, or neither is
abbrev pub BothOrNeither : {A B : Type 0} → (A → B → Type 0) → Option A → Option B → Type 0
BothOrNeither relation None None = Unit {0}
BothOrNeither relation None (Some y) = ⊥
BothOrNeither relation (Some x) None = ⊥
BothOrNeither relation (Some x) (Some y) = relation x y
