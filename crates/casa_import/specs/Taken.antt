-- to believe: calls that the sequential allocator takes one after another
use Rattle.std.specs.Prelude.{◌≡◌, List, [], ◌∷◌}
use Rattle.casa_flight.specs.declared.call.Call.{Call}
use Rattle.casa_flight.specs.declared.state.State.{State}
use Rattle.casa_flight.specs.Steps.{leads, next, step}

-- none of these calls is refused
abbrev pub AreTaken : State → List Call → Type 0
AreTaken m [] = Unit {0}
AreTaken m (call ∷ calls) = (step m call ≡ leads (next m call)) × AreTaken (next m call) calls
