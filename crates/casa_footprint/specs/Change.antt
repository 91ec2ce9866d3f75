-- to believe: when a change says what a call writes
use Rattle.std.specs.Prelude.{◌≡◌, Option, None, Some, if◌then◌else◌}
use Rattle.casa_flight.specs.declared.call.Call.{Call}
use Rattle.casa_flight.specs.declared.state.State.{State}
use Rattle.casa_flight.specs.Steps.{next}
use Rattle.casa_footprint.specs.Items.{ItemName, Content, contents}
use Rattle.casa_footprint.specs.Footprint.{writes}

-- what a change says of each item is what the call writes
abbrev pub IsChange : State → Call → (ItemName → Option Content) → Type 0
IsChange m call says = (i : ItemName) → says i ≡ (if writes m call i then Some (contents (next m call) i) else None)
