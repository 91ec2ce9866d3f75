-- inner contracts: a regulation that opens, by what a view shows
use Rattle.std.specs.Prelude.{List, length, Bool, true, false, nat_le, Option, None, Some}
use Rattle.casa_grid.specs.declared.period.Period.{Period}
use Rattle.casa_flight.specs.declared.call.Refusal.TheVariants.{DuplicateRegulation, TooManyRegulations}
use Rattle.casa_filing.specs.declared.regulation.Regulation.{Regulation}
use Rattle.casa_flight.specs.declared.reply.Reply.{Reply}
use Rattle.casa_filing.specs.Text.{Text}
use Rattle.casa_filing.specs.Subject.{regulation}
use Rattle.casa_flight.specs.Listing.{Listing}
use Rattle.casa_flight.specs.Steps.{most_regulations}
use Rattle.casa_plan_spec.specs.Sight.{Sight, Written, regulations_in, list_in}
use Rattle.casa_plan_spec.specs.FlightCalls.{refusal}
use Rattle.casa_plan_spec.specs.TakingIn.{taking_in}
use Rattle.casa_plan_spec.specs.Messages.{answer_done}

abbrev pub open_if : Sight → Regulation → List Period → Option Listing → Bool → Reply × Written
open_if v r profile (Some l) full = refusal DuplicateRegulation
open_if v r profile None true = refusal TooManyRegulations
open_if v r profile None false = answer_done v (taking_in v r profile)

-- the answer to a regulation that opens
abbrev pub open_reg : Sight → Text → Text → List Period → Reply × Written
open_reg v id loc profile =
    open_if v (regulation id (record { loc = loc; profile = profile })) profile
    (list_in v id) (nat_le most_regulations (length (regulations_in v)))
