-- what is proved of each call
use Rattle.std.proofs.Common.{◌≡◌, false, ◌&&◌}
use Rattle.casa_flight.specs.declared.call.Call.{Call}
use Rattle.casa_flight.specs.declared.state.State.{State}
use Rattle.casa_flight.specs.Steps.{Step, after, next}
use Rattle.casa_flight.specs.Good.{IsGood}
use Rattle.casa_footprint.specs.Items.{ItemName, contents, AgreeOn}
use Rattle.casa_footprint.specs.Footprint.{reads, would_write, is_accepted, writes}

-- and the same items are read
abbrev pub DecidesReads : Call → Type 0
DecidesReads call = (m n : State) → IsGood m → IsGood n → AgreeOn (reads m call) m n → (i : ItemName) → reads m call i ≡ reads n call i

-- what is not written stays
abbrev pub Spares : Call → Type 0
Spares call = (m : State) → IsGood m → (i : ItemName) → writes m call i ≡ false → contents (next m call) i ≡ contents m i

-- so far as a step tells
abbrev pub StepSpares : State → Call → ItemName → Step → Type 0
StepSpares m call i s = (is_accepted s && would_write m call i) ≡ false → contents (after m s) i ≡ contents m i
