-- for proofs: what workers hold was taken after a history with which this one begins
use Rattle.std.specs.Prelude.{ℕ, List}
use Rattle.casa_history.specs.declared.entry.Entry.{Entry}
use Rattle.casa_interleavings.specs.Scenes.{Hand, nothing, view, answer, Scene}
use Rattle.casa_interleavings.specs.Desks.{Begins}

-- what a worker holds was taken after a history with which this one begins
abbrev pub HandBegins : {C R : Type 0} → List (Entry C R) → Hand C R → Type 0
HandBegins es nothing = Unit {0}
HandBegins es (view c before) = Begins before es
HandBegins es (answer c before) = Begins before es

-- so it is with each worker of a scene
abbrev pub AllBegin : {C R : Type 0} → Scene C R → Type 0
AllBegin m = (w : ℕ) → HandBegins m.history (m.workers w).hand
