use Rattle.std.proofs.Common.{◌≡◌, ◌++◌, Option}
use Rattle.std.specs.Option.{option_and_then}
use Rattle.std.specs.List.{filter_map}
use Rattle.casa_flight.specs.declared.row.Row.{Row}
use Rattle.casa_filing.specs.Text.{Text}
use Rattle.casa_plan_spec.specs.Messages.{message_shown, messages_shown}
use Rattle.casa_plan.proofs.replies.messages.Given as goal

abbrev pub invariant-loop-key : goal.invariant-loop-key
invariant-loop-key g l =
    l.all.items ++ filter_map (λ (e : Text × Option Row). option_and_then (message_shown l.view l.draft e.0) e.1) l.key-iterator
    ≡ messages_shown l.view l.draft
