-- inner contracts: what a guard will give of what a peer sends
use Rattle.std.specs.Prelude.{ℕ, ◌≡◌, List, [], Option, None, Some, true, ⊤}
use Rattle.std.specs.Option.{option_map}
use Rattle.std.specs.Io.KnownBytes.{prepend_known}
use Rattle.casa_server.specs.declared.guard.Guarded.{Guarded}
use Rattle.casa_server.specs.declared.guard.Stage.{Stage}
use Rattle.casa_server.specs.declared.guard.Stage.TheVariants.{Looking, Passed, Turned}
use Rattle.casa_server.specs.Requests.{begins_request, let_through}

-- the bytes that were read and not given yet, and what the source has left
abbrev pub arriving : {R : Type 0} → (R → Option (List ℕ)) → Guarded R → Option (List ℕ)
arriving remaining g = prepend_known g.held.items (remaining g.source)

abbrev pub left_at : Stage → Option (List ℕ) → Option (List ℕ)
left_at Looking bytes = option_map let_through bytes
left_at Passed bytes = bytes
left_at Turned bytes = Some []

abbrev pub guarded_left : {R : Type 0} → (R → Option (List ℕ)) → Guarded R → Option (List ℕ)
guarded_left remaining g = left_at g.stage (arriving remaining g)

-- a request begins, or has begun, so that nothing is given of it
abbrev pub IsTurnedAt : Stage → Option (List ℕ) → Type 0
IsTurnedAt Looking None = ⊥
IsTurnedAt Looking (Some bytes) = begins_request bytes ≡ true
IsTurnedAt Passed bytes = ⊥
IsTurnedAt Turned bytes = ⊤

abbrev pub IsTurned : {R : Type 0} → (R → Option (List ℕ)) → Guarded R → Type 0
IsTurned remaining g = IsTurnedAt g.stage (arriving remaining g)
