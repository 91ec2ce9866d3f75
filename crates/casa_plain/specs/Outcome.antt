-- inner contracts: what becomes of a call
use Rattle.casa_flight.specs.Steps.{Step, refused, leads}
use Rattle.casa_plain.specs.declared.steps.Outcome.{Outcome}
use Rattle.casa_plain.specs.declared.steps.Outcome.TheVariants.{Refused, Leads}

-- the step of the definitions that an outcome is
abbrev pub step_of : Outcome → Step
step_of (Refused r) = refused r
step_of (Leads m) = leads m
