-- to believe: what is said of a flight, as JSON: times are seconds from midnight UTC
use Rattle.std.specs.Prelude.{ℕ, [], ◌∷◌, ◌++◌, Option, codes}
use Rattle.std.specs.Option.{option_map}
use Rattle.serde_json.specs.Data.{Data, string}
use Rattle.serde_json.specs.Written.{compact_text}
use Rattle.casa_filing.specs.Text.{Text}
use Rattle.casa_filing.specs.declared.plan.Crossing.{Crossing}
use Rattle.casa_flight.specs.declared.row.Stance.{Stance}
use Rattle.casa_flight.specs.Entry.{Offer}
use Rattle.casa_flight.specs.Listing.{eto_as}
use Rattle.casa_flight.specs.Replies.{kind_of}
use Rattle.casa_inquiry.specs.declared.exchanging.PossibleExchange.{PossibleExchange}
use Rattle.casa_inquiry.specs.declared.why.Holding.{Holding}
use Rattle.casa_inquiry.specs.declared.why.Rule.{Rule}
use Rattle.casa_inquiry.specs.declared.why.Rule.TheVariants.{GreatestDelay, SmallestId, SinceEntry, GovernedGone, Exempt, Gone, Outside}
use Rattle.casa_wire.specs.LineTexts.{count, kind_name, object_of, or_null}

-- a location over which it flies
abbrev pub crossing_data : Crossing → Data
crossing_data c = object_of ((codes "eto", count c.eto) ∷ (codes "loc", string c.loc) ∷ [])

-- the rule by which a regulation governs it, or none does
abbrev pub rule_name : Rule → Text
rule_name GreatestDelay = codes "GreatestDelay"
rule_name SmallestId = codes "SmallestId"
rule_name SinceEntry = codes "SinceEntry"
rule_name GovernedGone = codes "GovernedGone"
rule_name Exempt = codes "Exempt"
rule_name Gone = codes "Gone"
rule_name Outside = codes "Outside"

-- what a regulation would offer it
abbrev pub offer_data : Offer → Data
offer_data o = object_of ((codes "cto", count o.cto) ∷ (codes "delay", count o.delay) ∷ (codes "reg", string o.id) ∷ [])

abbrev pub eto_in : Option (Text × Stance) → Option ℕ
eto_in holder = option_map (λ (e : Text × Stance). eto_as e.1) holder

abbrev pub key_in : Option (Text × Stance) → Option Text
key_in holder = option_map (λ (e : Text × Stance). e.0) holder

abbrev pub kind_in : Option (Text × Stance) → Option Text
kind_in holder = option_map (λ (e : Text × Stance). kind_name (kind_of e.1)) holder

-- a slot that it waits for, with a flight that has it, if there is one
abbrev pub holding_data : Holding → Data
holding_data h = object_of (
    (codes "begin", count h.begin) ∷
    (codes "eto", or_null count (eto_in h.holder)) ∷
    (codes "key", or_null string (key_in h.holder)) ∷
    (codes "kind", or_null string (kind_in h.holder)) ∷
    (codes "slot", count h.slot) ∷ [])

-- inner: the members of a slot that tell who has it
abbrev pub holder_text : Option (Text × Stance) → Text
holder_text holder =
    codes ",\"eto\":" ++ (compact_text (or_null count (eto_in holder)) ++ (codes ",\"key\":" ++ (compact_text (or_null string (key_in holder))
    ++ (codes ",\"kind\":" ++ compact_text (or_null string (kind_in holder))))))

-- a flight with which it could exchange its slot, with the calculated take-off times that it and the other would then have
abbrev pub exchange_data : PossibleExchange → Data
exchange_data e = object_of (
    (codes "ctot", count e.ctot) ∷ (codes "other", string e.other) ∷ (codes "other_ctot", count e.other_ctot) ∷ [])
