-- to believe: the list that a reply tells
use Rattle.std.specs.Prelude.{Option, None, Some}
use Rattle.casa_flight.specs.declared.reply.Answer.{Answer}
use Rattle.casa_flight.specs.declared.reply.Answer.TheVariants.{Done, Flight, List}
use Rattle.casa_flight.specs.declared.reply.ListReply.{ListReply}
use Rattle.casa_flight.specs.declared.reply.Reply.{Reply}
use Rattle.casa_flight.specs.declared.reply.Reply.TheVariants.{Refused, Answered}

-- the list that an answer is, if it is one
abbrev pub list_as : Answer → Option ListReply
list_as Done = None
list_as (Flight flight) = None
list_as (List list) = Some list

-- the list that a reply tells, if it tells one
abbrev pub list_in : Reply → Option ListReply
list_in (Refused refusal) = None
list_in (Answered answer messages) = list_as answer
