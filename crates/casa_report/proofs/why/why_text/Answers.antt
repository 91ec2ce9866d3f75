use Rattle.std.proofs.Common.{◌++◌, ◌∙◌, ap}
use Rattle.casa_report.specs.Columns.{shown_line, titles}
use Rattle.casa_report.specs.Heading.{heading_line}
use Rattle.casa_report.specs.WhyText.{exchange_columns, flight_columns, holding_columns, offer_columns, rule_line, section}
use Rattle.casa_report.proofs.Parts.{seven_parts}
use Rattle.casa_report.proofs.why.why_text.Goals as goal

pub returns : goal.returns
returns c =
    let why = c.args.why.now in
    seven_parts (heading_line why.flight.key c.args.day) (titles flight_columns) (shown_line flight_columns why.flight) (rule_line why.flight.reg why.rule) (section offer_columns why.offers) (section holding_columns why.holdings) (section exchange_columns c.args.exchanges.now)
    c.extend_from_slice.new.self.items c.extend_from_slice-2.new.self.items c.extend_from_slice-3.new.self.items c.extend_from_slice-4.new.self.items c.push_offers.new.text.items c.push_holdings.new.text.items c.push_exchanges.new.text.items
    (c.in_ok-extend_from_slice.ensures.items ∙ ap (λ t. t ++ c.as_bytes.result.now) c.new-text.ensures.items ∙ c.as_bytes.ensures.value ∙ c.in_ok-heading.ensures)
    c.in_ok-extend_from_slice-2.ensures.items
    (c.in_ok-extend_from_slice-3.ensures.items ∙ ap (λ t. c.extend_from_slice-2.new.self.items ++ t) (c.as_slice.ensures.value ∙ c.flight_line.ensures))
    (c.in_ok-extend_from_slice-4.ensures.items ∙ ap (λ t. c.extend_from_slice-3.new.self.items ++ t) (c.as_slice-2.ensures.value ∙ c.rule_line.ensures))
    (c.in_ok-push_offers.ensures ∙ ap (λ os. c.extend_from_slice-4.new.self.items ++ section offer_columns os) c.as_slice-3.ensures)
    (c.in_ok-push_holdings.ensures ∙ ap (λ hs. c.push_offers.new.text.items ++ section holding_columns hs) c.as_slice-4.ensures)
    c.in_ok-push_exchanges.ensures
