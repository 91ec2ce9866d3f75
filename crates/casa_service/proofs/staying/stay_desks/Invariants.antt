use Rattle.std.specs.Arc.{arc_value}
use Rattle.casa_front.specs.Openings.{history_name}
use Rattle.casa_service.proofs.staying.stay_desks.Given as goal

abbrev pub ghosts-stay_on-V-Shelving : goal.ghosts-stay_on-V-Shelving
ghosts-stay_on-V-Shelving g a = record { shelves = arc_value a.shelf.now }

abbrev pub ghosts-stay_on-L-Ledger : goal.ghosts-stay_on-L-Ledger
ghosts-stay_on-L-Ledger g a = record { name = a.blank.ledger.name; parts = a.blank.ledger.parts }

abbrev pub ghosts-stay_on-L-Named : goal.ghosts-stay_on-L-Named
ghosts-stay_on-L-Named g a = record { history = history_name a.blank.history; notes = history_name a.notes }
