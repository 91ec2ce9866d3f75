use Rattle.casa_wire.proofs.Behind.{writes_third}
use Rattle.casa_wire.proofs.reply_lines.push_answer_opening.Goals as goal

pub returns-in_ok-push_flight-in-Flight : goal.returns-in_ok-push_flight-in-Flight
returns-in_ok-push_flight-in-Flight c =
    rw c.in-Flight.is
    (writes_third c.push_text-in-Flight-2.result c.args.out.now.items c.push_text-in-Flight.new.out.items c.push_flight.new.out.items c.push_text-in-Flight-2.new.out.items _ _ _
    c.in_ok-push_text-in-Flight.ensures c.in_ok-push_flight-in-Flight.ensures c.push_text-in-Flight-2.ensures)

pub returns-in_ok-push_list-in-List : goal.returns-in_ok-push_list-in-List
returns-in_ok-push_list-in-List c =
    rw c.in-List.is
    (writes_third c.push_text-in-List-2.result c.args.out.now.items c.push_text-in-List.new.out.items c.push_list.new.out.items c.push_text-in-List-2.new.out.items _ _ _
    c.in_ok-push_text-in-List.ensures (rw c.deref.ensures at c.in_ok-push_list-in-List.ensures) c.push_text-in-List-2.ensures)
