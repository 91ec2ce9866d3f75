-- to believe: why a flight waits, and with which flights it could exchange its slot, as a text
use Rattle.std.specs.Prelude.{List, [], ◌∷◌, ◌++◌, length, ◌==◌, Bool, true, false, codes, decimal, Option, unwrap_or, if◌then◌else◌}
use Rattle.std.specs.List.{flat_map}
use Rattle.std.specs.Option.{option_map_or}
use Rattle.jiff_core.specs.declared.civil.date.Date.{Date}
use Rattle.casa_time.specs.Hhmm.{hhmm}
use Rattle.casa_flight.specs.declared.reply.FlightReply.{FlightReply}
use Rattle.casa_flight.specs.declared.row.Stance.{Stance}
use Rattle.casa_flight.specs.declared.row.Stance.TheVariants.{Competing, Issued, Forced}
use Rattle.casa_filing.specs.Text.{Text}
use Rattle.casa_flight.specs.Listing.{eto_as}
use Rattle.casa_flight.specs.Entry.{Offer}
use Rattle.casa_inquiry.specs.declared.exchanging.PossibleExchange.{PossibleExchange}
use Rattle.casa_inquiry.specs.declared.why.Reasons.{Reasons}
use Rattle.casa_inquiry.specs.declared.why.Holding.{Holding}
use Rattle.casa_inquiry.specs.declared.why.Rule.{Rule}
use Rattle.casa_inquiry.specs.declared.why.Rule.TheVariants.{GreatestDelay, SmallestId, SinceEntry, GovernedGone, Exempt, Gone, Outside}
use Rattle.casa_report.specs.Columns.{Column, left, right, shown_line, titles}
use Rattle.casa_report.specs.Heading.{heading_line}

abbrev pub yes_or_no : Bool → Text
yes_or_no true = codes "yes"
yes_or_no false = codes "no"

-- a name, or a hyphen where there is none
abbrev pub name_text : Option Text → Text
name_text name = unwrap_or name (codes "-")

-- the flight as it stands
abbrev pub flight_columns : List (Column FlightReply)
flight_columns =
    record { title = codes "EOBT"; place = left 4; shown = λ flight. hhmm flight.eobt } ∷
    record { title = codes "ETOT"; place = left 4; shown = λ flight. hhmm flight.etot } ∷
    record { title = codes "CTOT"; place = left 4; shown = λ flight. hhmm flight.ctot } ∷
    record { title = codes "DELAY"; place = right 6; shown = λ flight. decimal flight.delay } ∷
    record { title = codes "EXEMPT"; place = left 6; shown = λ flight. yes_or_no flight.exempt } ∷
    record { title = codes "ISSUED"; place = left 6; shown = λ flight. yes_or_no flight.issued } ∷
    record { title = codes "REG"; place = left 0; shown = λ flight. name_text flight.reg } ∷ []

-- what is said of the regulation that governs it, or that none does
abbrev pub rule_text : Rule → Text
rule_text GreatestDelay = codes " governs: it offers the greatest delay."
rule_text SmallestId = codes " governs: it offers the greatest delay, and others as much; its identifier is the smallest."
rule_text SinceEntry = codes " governs since the flight entered; if it entered now, another one would."
rule_text GovernedGone = codes " governs since the flight entered; it is gone now."
rule_text Exempt = codes " governs: the flight is exempt."
rule_text Gone = codes " governs: the flight is gone."
rule_text Outside = codes " governs: the flight is subject to no open regulation."

abbrev pub rule_line : Option Text → Rule → Text
rule_line reg rule = unwrap_or reg (codes "Nothing") ++ (rule_text rule ++ 10 ∷ [])

-- what each regulation offers it
abbrev pub offer_columns : List (Column Offer)
offer_columns =
    record { title = codes "REG"; place = left 10; shown = λ offer. offer.id } ∷
    record { title = codes "CTO"; place = left 4; shown = λ offer. hhmm offer.cto } ∷
    record { title = codes "DELAY"; place = right 6; shown = λ offer. decimal offer.delay } ∷ []

-- whether a flight that stands so keeps its slot, or may still move
abbrev pub stance_text : Stance → Text
stance_text (Competing eto) = codes "pre: may still move"
stance_text (Issued eto cto) = codes "issued: fixed"
stance_text (Forced eto) = codes "forced: fixed"

abbrev pub key_in : Option (Text × Stance) → Text
key_in holder = option_map_or (λ (e : Text × Stance). e.0) holder (codes "-")

abbrev pub eto_in : Option (Text × Stance) → Text
eto_in holder = option_map_or (λ (e : Text × Stance). hhmm (eto_as e.1)) holder (codes "-")

abbrev pub stance_in : Option (Text × Stance) → Text
stance_in holder = option_map_or (λ (e : Text × Stance). stance_text e.1) holder (codes "free")

-- who holds each slot that it waits for
abbrev pub holding_columns : List (Column Holding)
holding_columns =
    record { title = codes "SLOT"; place = right 5; shown = λ holding. decimal holding.slot } ∷
    record { title = codes "BEGIN"; place = left 5; shown = λ holding. hhmm holding.begin } ∷
    record { title = codes "KEY"; place = left 10; shown = λ holding. key_in holding.holder } ∷
    record { title = codes "ETO"; place = left 4; shown = λ holding. eto_in holding.holder } ∷
    record { title = codes "HELD"; place = left 0; shown = λ holding. stance_in holding.holder } ∷ []

-- inner: what a line says of who has a slot, behind its number and its begin
abbrev pub holder_text : Option (Text × Stance) → Text
holder_text holder = left 10 (key_in holder) ++ 32 ∷ (left 4 (eto_in holder) ++ 32 ∷ (left 0 (stance_in holder) ++ 10 ∷ []))

-- the flights with which it could exchange its slot, with the calculated take-off times that it and the other would then have
abbrev pub exchange_columns : List (Column PossibleExchange)
exchange_columns =
    record { title = codes "EXCHANGE"; place = left 10; shown = λ exchange. exchange.other } ∷
    record { title = codes "CTOT"; place = left 4; shown = λ exchange. hhmm exchange.ctot } ∷
    record { title = codes "ITS CTOT"; place = left 0; shown = λ exchange. hhmm exchange.other_ctot } ∷ []

-- an empty line, the titles and a line for each of these; nothing where there are none
abbrev pub section : {X : Type 0} → List (Column X) → List X → Text
section columns xs = if length xs == 0 then [] else 10 ∷ titles columns ++ flat_map (shown_line columns) xs

-- the heading with the flight and the day, the flight as it stands, the rule by which it is governed, the offers, the slots
-- that it waits for, and the exchanges that are possible
abbrev pub why_text : Date → Reasons → List PossibleExchange → Text
why_text day why exchanges =
    heading_line why.flight.key day ++ titles flight_columns ++ shown_line flight_columns why.flight
    ++ rule_line why.flight.reg why.rule ++ section offer_columns why.offers ++ section holding_columns why.holdings
    ++ section exchange_columns exchanges
