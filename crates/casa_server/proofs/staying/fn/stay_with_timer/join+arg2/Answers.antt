use denote.Exit.{yes}
use mir.Syntax.{of_param}
use Rattle.casa_server.proofs.Sent.{quiet_if_kept}
use Rattle.casa_server.proofs.staying.fn.stay_with_timer.join+arg2.Goals as goal

pub stay_seen-requires-send-S : goal.stay_seen-requires-send-S
stay_seen-requires-send-S g c = λ κs within.
    record { owned = c.requires.1.1.1.1.1.1.1.1.1.0.owned; leaving = λ k. quiet_if_kept (k (of_param 0)) (g.row.S.exit yes) (c.requires.1.1.1.1.1.1.1.1.1.0.leaving yes) }

pub stay_seen-requires-send-K : goal.stay_seen-requires-send-K
stay_seen-requires-send-K g c = λ κs within.
    record { owned = c.requires.1.1.1.1.1.1.1.1.1.1.owned; leaving = λ k. quiet_if_kept (k (of_param 1)) (g.row.K.exit yes) (c.requires.1.1.1.1.1.1.1.1.1.1.leaving yes) }

pub stay_seen-requires-send-L : goal.stay_seen-requires-send-L
stay_seen-requires-send-L g c = λ κs within.
    record { owned = c.requires.1.1.1.1.1.1.1.1.1.2.owned; leaving = λ k. quiet_if_kept (k (of_param 2)) (g.row.L.exit yes) (c.requires.1.1.1.1.1.1.1.1.1.2.leaving yes) }

pub stay_seen-requires-send-S-Reader : goal.stay_seen-requires-send-S-Reader
stay_seen-requires-send-S-Reader g c = λ κs within.
    record { owned = c.requires.1.1.1.1.1.1.1.1.1.3.owned; leaving = λ k. quiet_if_kept (k (of_param 6)) (g.row.S-Reader.exit yes) (c.requires.1.1.1.1.1.1.1.1.1.3.leaving yes) }

pub stay_seen-requires-send-S-Writer : goal.stay_seen-requires-send-S-Writer
stay_seen-requires-send-S-Writer g c = λ κs within.
    record { owned = c.requires.1.1.1.1.1.1.1.1.1.4.owned; leaving = λ k. quiet_if_kept (k (of_param 7)) (g.row.S-Writer.exit yes) (c.requires.1.1.1.1.1.1.1.1.1.4.leaving yes) }

pub stay_seen-requires-send-K-Version : goal.stay_seen-requires-send-K-Version
stay_seen-requires-send-K-Version g c = λ κs within.
    record { owned = c.requires.1.1.1.1.1.1.1.1.1.5.owned; leaving = λ k. quiet_if_kept (k (of_param 8)) (g.row.K-Version.exit yes) (c.requires.1.1.1.1.1.1.1.1.1.5.leaving yes) }
