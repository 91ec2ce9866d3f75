use Rattle.casa_laws.proofs.InTurn.{tick_places, tick_times, tick_in_turn, tick_take_off}
use Rattle.casa_laws.proofs.laws.tick_moves_nobody.Goals as goal

pub returns-clause-places : goal.returns-clause-places
returns-clause-places c = tick_places

pub returns-clause-times : goal.returns-clause-times
returns-clause-times c = tick_times

pub returns-clause-in_turn : goal.returns-clause-in_turn
returns-clause-in_turn c = tick_in_turn

pub returns-clause-take_off : goal.returns-clause-take_off
returns-clause-take_off c = tick_take_off
