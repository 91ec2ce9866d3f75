use Rattle.std.proofs.Common.{◌≡◌, ℕ, ◌+◌, ◌≤◌, ◌^◌, List, [], ◌∷◌, ◌++◌, take, Option, sym, ap, subst, ◌∙◌, arith}
use Rattle.std.specs.Prelude.{filter, IfNone}
use Rattle.std.proofs.lemmas.List.Sums.{sum_by_push}
use Rattle.std.specs.List.{sum_by}
use Rattle.casa_flight.specs.declared.reply.ListReply.{ListReply}
use Rattle.casa_flight.specs.declared.reply.ListRow.{ListRow}
use Rattle.casa_inquiry.specs.declared.summary.Cost.{Cost}
use Rattle.casa_inquiry.specs.Summary.{count, delay, governed_delays, greatest, is_forced, is_governed, is_issued, is_over, rows_of, total_delay}
use Rattle.casa_inquiry.proofs.Summed.{count-append, delays-first, delays-next, longest-append, rows-next, take-next}
use Rattle.casa_inquiry.proofs.summary.Cost.of_all.Goals as goal

pub loop-list-preserved : goal.loop-list-preserved
loop-list-preserved c =
    let lists = c.args.lists.now in
    let i = c.loop-list.list-index in
    let list = c.list-item.result in
    let before = rows_of (take i lists) in
    let kept = c.loop-list.invariant in
    let more = c.count.ensures in
    let slots_of : ListReply → ℕ = λ list. list.slots in
    let delays_of : List ListRow → ℕ = λ rows. sum_by delay (filter is_governed rows) in
    let here : take (i + 1) lists ≡ take i lists ++ list ∷ [] =
    take-next lists i list c.loop-list-test.true ∙ ap (λ l. take i lists ++ l ∷ []) (sym c.list-item.is) in
    let rows : rows_of (take (i + 1) lists) ≡ before ++ list.rows =
    rows-next lists i list c.loop-list-test.true ∙ ap (λ (l : ListReply). before ++ l.rows) (sym c.list-item.is) in
    record {
      slots = omega (arith, more.slots, kept.slots, ap (sum_by slots_of) here, sum_by_push slots_of (take i lists) list);
      governed = omega (arith, more.flights.0, kept.governed, ap (count is_governed) rows, count-append is_governed before list.rows);
      issued = omega (arith, more.flights.1, kept.issued, ap (count is_issued) rows, count-append is_issued before list.rows);
      forced = omega (arith, more.flights.2, kept.forced, ap (count is_forced) rows, count-append is_forced before list.rows);
      over = omega (arith, more.flights.3, kept.over, ap (count is_over) rows, count-append is_over before list.rows);
      delay = omega (arith, c.in_ok-cost.ensures.1, more.delay, kept.delay, c.delay_in.ensures, ap delays_of c.as_slice.ensures, delays-next lists i list c.loop-list-test.true c.list-item.is);
      longest = omega (arith, more.longest, kept.longest, ap (λ (rs : List ListRow). greatest (governed_delays rs)) rows, longest-append before list.rows);
      bound = record {
        slots = omega (arith, more.slots, kept.bound.slots, more.within.slots);
        governed = omega (arith, more.flights.0, kept.bound.governed, more.within.governed);
        issued = omega (arith, more.flights.1, kept.bound.issued, more.within.issued);
        forced = omega (arith, more.flights.2, kept.bound.forced, more.within.forced);
        over = omega (arith, more.flights.3, kept.bound.over, more.within.over);
      };
    }

pub returns-in_err-cost-clause-none : goal.returns-in_err-cost-clause-none
returns-in_err-cost-clause-none c =
    let lists = c.args.lists.now in
    let i = c.loop-list.list-index in
    let list = c.list-item.result in
    let delays_of : List ListRow → ℕ = λ rows. sum_by delay (filter is_governed rows) in
    let first : 2 ^ 128 ≤ total_delay (take (i + 1) lists) =
    omega (arith, c.in_err-cost.ensures, c.count.ensures.delay, c.loop-list.invariant.delay, c.delay_in.ensures, ap delays_of c.as_slice.ensures, delays-next lists i list c.loop-list-test.true c.list-item.is) in
    let all : 2 ^ 128 ≤ total_delay lists = omega (arith, first, delays-first lists (i + 1)) in
    subst (λ (o : Option Cost). IfNone o (2 ^ 128 ≤ total_delay lists)) (sym c.from_residual.ensures) all
