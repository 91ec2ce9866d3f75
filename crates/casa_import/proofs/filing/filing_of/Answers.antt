use Rattle.std.proofs.Common.{◌≡◌, ◌∙◌, Ok, sym, ap, subst}
use Rattle.casa_import.specs.Filing.{earliest, own_entries}
use Rattle.casa_import.specs.Gives.{Gives}
use Rattle.casa_import.specs.Keyed.{flown}
use Rattle.casa_import.specs.Taking.{and_entered}
use Rattle.casa_import.proofs.Steps.{filing-of_steps}
use Rattle.casa_import.proofs.filing.filing_of.Goals as goal

pub returns : goal.returns
returns c =
    let crossings = flown c.args.crossings.now in
    let stated = c.in_ok-stated.stated in
    let first = c.in_ok-via.via.items in
    let entered : first ≡ earliest (crossings stated.key) = c.in_ok-via.ensures ∙ ap earliest c.of.ensures in
    let own : and_entered (earliest (crossings stated.key)) (own_entries c.args.options.now.day c.args.columns.now.entries.items c.args.row.now) ≡ Ok c.in_ok-via-2.via.items =
    ap (λ via. and_entered via (own_entries c.args.options.now.day c.args.columns.now.entries.items c.args.row.now)) (sym entered)
    ∙ ap (λ columns. and_entered first (own_entries c.args.options.now.day columns c.args.row.now)) (sym c.deref.ensures.value)
    ∙ c.in_ok-via-2.ensures in
    subst (Gives c.planned.result)
    (filing-of_steps c.args.options.now c.args.columns.now crossings c.args.row.now stated c.in_ok-departure.departure c.in_ok-via-2.via.items
    c.in_ok-stated.ensures own c.in_ok-departure.ensures)
    c.planned.ensures
