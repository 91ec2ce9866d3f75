-- to believe: what a desk of the allocator has answered
use Rattle.std.specs.Prelude.{List}
use Rattle.casa_flight.specs.declared.call.Call.{Call}
use Rattle.casa_flight.specs.declared.reply.Reply.{Reply}
use Rattle.casa_history.specs.declared.entry.Receipt.{Receipt}

-- what a desk of the allocator has answered, the first first
abbrev pub Receipts : Type 0
Receipts = List (Receipt Call Reply)
