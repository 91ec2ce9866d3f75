use denote.Exit.{yes}
use mir.Syntax.{of_param}
use Rattle.casa_server.proofs.Sent.{quiet_if_kept}
use Rattle.casa_service.proofs.staying.fn.stay_with_page.scope.Goals as goal

pub stay_beside-requires-send-K : goal.stay_beside-requires-send-K
stay_beside-requires-send-K g c = λ κs within.
    record { owned = c.requires.1.1.1.1.1.1.0.owned; leaving = λ k. quiet_if_kept (k (of_param 1)) (g.row.K.exit yes) (c.requires.1.1.1.1.1.1.0.leaving yes) }

pub stay_beside-requires-send-L : goal.stay_beside-requires-send-L
stay_beside-requires-send-L g c = λ κs within.
    record { owned = c.requires.1.1.1.1.1.1.1.owned; leaving = λ k. quiet_if_kept (k (of_param 2)) (g.row.L.exit yes) (c.requires.1.1.1.1.1.1.1.leaving yes) }

pub stay_beside-requires-send-P : goal.stay_beside-requires-send-P
stay_beside-requires-send-P g c = λ κs within.
    record { owned = c.requires.1.1.1.1.1.1.2.owned; leaving = λ k. quiet_if_kept (k (of_param 4)) (g.row.P.exit yes) (c.requires.1.1.1.1.1.1.2.leaving yes) }

pub stay_beside-requires-send-K-Version : goal.stay_beside-requires-send-K-Version
stay_beside-requires-send-K-Version g c = λ κs within.
    record { owned = c.requires.1.1.1.1.1.1.3.owned; leaving = λ k. quiet_if_kept (k (of_param 5)) (g.row.K-Version.exit yes) (c.requires.1.1.1.1.1.1.3.leaving yes) }

pub stay_beside-requires-send-P-Kept : goal.stay_beside-requires-send-P-Kept
stay_beside-requires-send-P-Kept g c = λ κs within.
    record { owned = c.requires.1.1.1.1.1.1.4.owned; leaving = λ k. quiet_if_kept (k (of_param 6)) (g.row.P-Kept.exit yes) (c.requires.1.1.1.1.1.1.4.leaving yes) }
