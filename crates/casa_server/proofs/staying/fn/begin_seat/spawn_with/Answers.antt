use denote.Exit.{yes}
use mir.Syntax.{of_param}
use Rattle.casa_server.proofs.Sent.{quiet_if_kept}
use Rattle.casa_server.proofs.staying.fn.begin_seat.spawn_with.Goals as goal

pub sit-requires-send-S-Reader : goal.sit-requires-send-S-Reader
sit-requires-send-S-Reader g c = λ κs within.
    record { owned = c.requires.1.1.1.1.1.1.1.1.1.3.owned; leaving = λ k. quiet_if_kept (k (of_param 6)) (g.row.S-Reader.exit yes) (c.requires.1.1.1.1.1.1.1.1.1.3.leaving yes) }

pub sit-requires-send-S-Writer : goal.sit-requires-send-S-Writer
sit-requires-send-S-Writer g c = λ κs within.
    record { owned = c.requires.1.1.1.1.1.1.1.1.1.4.owned; leaving = λ k. quiet_if_kept (k (of_param 7)) (g.row.S-Writer.exit yes) (c.requires.1.1.1.1.1.1.1.1.1.4.leaving yes) }
