use Rattle.casa_plan_spec.proofs.FlightCalls.{file_planned, amend_planned, cancel_planned, revise_planned, exempt_planned, show_planned}
use Rattle.casa_plan_spec.proofs.flight_laws.flight_calls_are_answered.Goals as goal

pub returns-clause-filed : goal.returns-clause-filed
returns-clause-filed c = file_planned

pub returns-clause-amended : goal.returns-clause-amended
returns-clause-amended c = amend_planned

pub returns-clause-cancelled : goal.returns-clause-cancelled
returns-clause-cancelled c = cancel_planned

pub returns-clause-revised : goal.returns-clause-revised
returns-clause-revised c = revise_planned

pub returns-clause-exempted : goal.returns-clause-exempted
returns-clause-exempted c = exempt_planned

pub returns-clause-shown : goal.returns-clause-shown
returns-clause-shown c = show_planned
