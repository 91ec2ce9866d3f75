use Rattle.std.proofs.Common.{◌≡◌, ◌∷◌, [], ◌+◌, ◌++◌, arith, take, subst, sym, ◌∙◌, ap}
use Rattle.std.proofs.lemmas.List.{take_more, length-take-le}
use Rattle.casa_rows.specs.declared.row.Row.{Row}
use Rattle.casa_import.specs.Crossings.{IsRead}
use Rattle.casa_import.specs.Keyed.{has_key}
use Rattle.casa_import.proofs.Reading.{entered_again-le, of_no_flight-le, read-more}
use Rattle.casa_import.proofs.crossings.read_crossings.Goals as goal

pub take-requires-clause-of_no_flight : goal.take-requires-clause-of_no_flight
take-requires-clause-of_no_flight c =
    let le = of_no_flight-le _ _ _ _ _ c.loop-row.invariant in
    omega (arith, length-take-le c.loop-row.row-index c.args.rows.now)

pub take-requires-clause-entered_again : goal.take-requires-clause-entered_again
take-requires-clause-entered_again c =
    let le = entered_again-le _ _ _ _ _ c.loop-row.invariant in
    omega (arith, length-take-le c.loop-row.row-index c.args.rows.now)

pub loop-row-preserved : goal.loop-row-preserved
loop-row-preserved c =
    let i = c.loop-row.row-index in
    let row : Row = c.row-item.result in
    let next : take (i + 1) c.args.rows.now ≡ take i c.args.rows.now ++ row ∷ [] =
    take_more c.args.rows.now i row c.loop-row-test.true
    ∙ ap (λ (r : Row). take i c.args.rows.now ++ r ∷ []) (sym c.row-item.is) in
    subst (λ rows. IsRead c.args.day c.args.columns.now (has_key c.args.named.now) rows c.take.new.read) (sym next)
    (read-more c.args.day c.args.columns.now (has_key c.args.named.now) (take i c.args.rows.now) row c.loop-row.read c.take.new.read c.loop-row.invariant c.in_ok-take.ensures)
