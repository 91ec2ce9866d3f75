use Rattle.std.proofs.Common.{◌≡◌, ◌++◌, drop}
use Rattle.std.specs.List.{flat_map}
use Rattle.casa_report.specs.Columns.{shown_line}
use Rattle.casa_report.specs.WhyText.{offer_columns, section}
use Rattle.casa_report.proofs.why.push_offers.Given as goal

abbrev pub invariant-loop-offer : goal.invariant-loop-offer
invariant-loop-offer l =
    l.text.items ++ flat_map (shown_line offer_columns) (drop l.offer-index l.offers) ≡ l.fn.text.items ++ section offer_columns l.offers
