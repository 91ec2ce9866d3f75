-- inner contracts: new rates, by what a view shows
use Rattle.std.specs.Prelude.{List, [], ◌∷◌, Bool, true, false, Option, None, Some}
use Rattle.std.specs.Option.{option_map_or}
use Rattle.casa_grid.specs.declared.period.Period.{Period}
use Rattle.casa_grid.specs.Profile.{end_of}
use Rattle.casa_flight.specs.declared.call.Refusal.TheVariants.{NoRegulation, SpanChanged}
use Rattle.casa_filing.specs.declared.regulation.Regulation.{Regulation}
use Rattle.casa_flight.specs.declared.reply.Answer.TheVariants.{Done}
use Rattle.casa_flight.specs.declared.reply.Reply.{Reply}
use Rattle.casa_flight.specs.declared.reply.Reply.TheVariants.{Answered}
use Rattle.casa_filing.specs.Text.{Text, at_name}
use Rattle.casa_flight.specs.Listing.{Listing}
use Rattle.casa_flight.specs.Steps.{keeps_span, ends_later}
use Rattle.casa_footprint.specs.Finding.{by_id}
use Rattle.casa_plan_spec.specs.Sight.{Sight, Written, nothing_written, regulations_in, list_in}
use Rattle.casa_plan_spec.specs.FlightCalls.{refusal}
use Rattle.casa_plan_spec.specs.TakingIn.{taking_in}
use Rattle.casa_plan_spec.specs.Messages.{answer_done}

-- the list of a regulation with its new profile
abbrev pub rates_written : Text → List Period → Listing → Written
rates_written id profile l = record nothing_written { lists = (id, Some (record l { profile = profile })) ∷ [] }

-- the regulation with the later end of this profile takes flights in
abbrev pub extend_regulation : Sight → List Period → Regulation → Reply × Written
extend_regulation v profile r = answer_done v (taking_in v (record r { end = end_of profile }) profile)

-- new rates keep the start of the regulation; with its end no message comes of them, with a later one flights enter
abbrev pub rates_if : Sight → Text → List Period → Listing → Bool → Bool → Reply × Written
rates_if v id profile l false later = refusal SpanChanged
rates_if v id profile l true false = (Answered Done [], rates_written id profile l)
rates_if v id profile l true true =
    option_map_or (extend_regulation v profile) (at_name (by_id (regulations_in v)) id) (refusal NoRegulation)

abbrev pub rates_at : Sight → Text → List Period → Option Listing → Reply × Written
rates_at v id profile None = refusal NoRegulation
rates_at v id profile (Some l) = rates_if v id profile l (keeps_span profile l.profile) (ends_later profile l.profile)

-- the answer to new rates
abbrev pub rates : Sight → Text → List Period → Reply × Written
rates v id profile = rates_at v id profile (list_in v id)
