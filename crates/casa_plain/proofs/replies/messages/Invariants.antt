use Rattle.std.proofs.Common.{◌≡◌, ◌++◌}
use Rattle.std.specs.List.{filter_map}
use Rattle.casa_flight.specs.declared.row.Row.{Row}
use Rattle.casa_filing.specs.Text.{Text}
use Rattle.casa_flight.specs.Replies.{message}
use Rattle.casa_plain.proofs.replies.messages.Given as goal

abbrev pub invariant-loop-key : goal.invariant-loop-key
invariant-loop-key l =
    l.all.items ++ filter_map (λ (e : Text × Row). message l.old l.new e.0 e.1) l.key-iterator
    ≡ filter_map (λ (e : Text × Row). message l.old l.new e.0 e.1) l.new.rows
