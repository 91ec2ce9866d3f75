use Rattle.std.proofs.Common.{◌≡◌, arith}
use Rattle.casa_inquiry.specs.Summary.{count, is_forced, is_governed, is_issued, is_over}
use Rattle.casa_inquiry.proofs.summary.Cost.count.Goals as goal

pub returns-clause-within : goal.returns-clause-within
returns-clause-within c =
    let governed : c.governed.result ≡ count is_governed c.args.list.now.rows = cc in
    let issued : c.issued.result ≡ count is_issued c.args.list.now.rows = cc in
    let forced : c.forced.result ≡ count is_forced c.args.list.now.rows = cc in
    let over : c.over.result ≡ count is_over c.args.list.now.rows = cc in
    record {
      slots = omega arith;
      governed = omega arith;
      issued = omega arith;
      forced = omega arith;
      over = omega arith;
    }

pub returns-clause-flights : goal.returns-clause-flights
returns-clause-flights c =
    let governed : c.governed.result ≡ count is_governed c.args.list.now.rows = cc in
    let issued : c.issued.result ≡ count is_issued c.args.list.now.rows = cc in
    let forced : c.forced.result ≡ count is_forced c.args.list.now.rows = cc in
    let over : c.over.result ≡ count is_over c.args.list.now.rows = cc in
    (omega arith, omega arith, omega arith, omega arith)
