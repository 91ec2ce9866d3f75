-- to believe: what is shown of a state
use Rattle.std.specs.Prelude.{ℕ, List, [], ◌∷◌, map, codes}
use Rattle.serde_json.specs.Data.{Data, string}
use Rattle.serde_json.specs.Written.{compact_text}
use Rattle.casa_filing.specs.Text.{Text}
use Rattle.casa_filing.specs.declared.regulation.Measure.{Measure}
use Rattle.casa_filing.specs.Subject.{regulation}
use Rattle.casa_flight.specs.declared.reply.ListReply.{ListReply}
use Rattle.casa_flight.specs.declared.state.State.{State}
use Rattle.casa_flight.specs.Listing.{listing}
use Rattle.casa_flight.specs.Replies.{list_reply}
use Rattle.casa_inquiry.specs.Summary.{cost_of}
use Rattle.casa_json.specs.Lists.{period_data}
use Rattle.casa_wire.specs.LineTexts.{count, list_of, object_of}
use Rattle.casa_look.specs.declared.state.OpenRegulation.{OpenRegulation}

-- a regulation with what it costs by its list
abbrev pub open_regulation : Text → Measure → ListReply → OpenRegulation
open_regulation id measure list = record { id = id; measure = measure; cost = cost_of list }

-- the open regulations of a state, in the order of their identifiers
abbrev pub open_regulations : State → List OpenRegulation
open_regulations m =
    map (λ (e : Text × Measure). open_regulation e.0 e.1 (list_reply m (regulation e.0 e.1) (listing m.rows e.0 e.1))) m.regs

abbrev pub regulation_data : OpenRegulation → Data
regulation_data r = object_of (
    (codes "delay", count r.cost.delay) ∷
    (codes "forced", count r.cost.forced) ∷
    (codes "governed", count r.cost.governed) ∷
    (codes "issued", count r.cost.issued) ∷
    (codes "loc", string r.measure.loc) ∷
    (codes "longest", count r.cost.longest) ∷
    (codes "over", count r.cost.over) ∷
    (codes "periods", list_of period_data r.measure.profile) ∷
    (codes "reg", string r.id) ∷
    (codes "slots", count r.cost.slots) ∷ [])

-- the state after so many calls, at this clock, with these open regulations
abbrev pub state_data : ℕ → ℕ → List OpenRegulation → Data
state_data calls clock regulations =
    object_of ((codes "clock", count clock) ∷ (codes "n", count calls) ∷ (codes "regs", list_of regulation_data regulations) ∷ [])

abbrev pub state_text : ℕ → ℕ → List OpenRegulation → Text
state_text calls clock regulations = compact_text (state_data calls clock regulations)
