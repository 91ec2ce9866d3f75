use Rattle.std.proofs.Common.{rules, arith, ◌≡◌, ◌∙◌, sym}
use Rattle.std.specs.Prelude.{pos, ◌+ℤ◌, ◌*ℤ◌}
use Rattle.std.proofs.lemmas.Int.{ints}
use Rattle.jiff_core.proofs.DateTimeLemmas.{civil_nanos-parts}
use Rattle.jiff_core.specs.Date.{epoch_day}
use Rattle.jiff_core.specs.Time.{time_nanos, time_seconds}
use Rattle.casa_server.proofs.Clocks.{within, elsewhere, ok_some}
use Rattle.casa_server.proofs.moments.moment_at.Goals as goal

pub returns-clause-some : goal.returns-clause-some
returns-clause-some c =
    let clock = c.to_datetime-clock.result in
    let second : c.second_of_day.result ≡ time_seconds clock.time = search rules in
    let later : epoch_day clock.date ≡ epoch_day c.args.day +ℤ pos c.in_ok-days.days = search rules in
    let whole : ((epoch_day clock.date *ℤ pos 86400000000000) +ℤ pos (time_nanos clock.time)) ≡ c.args.now.nanosecond =
    sym (civil_nanos-parts clock) ∙ c.to_datetime-clock.ensures ∙ omega (arith, ints) in
    rw c.ok.ensures.value (ok_some c.new.result _ _ c.new.ensures.value
    (rw second (within (epoch_day c.args.day) (epoch_day clock.date) _ c.in_ok-days.days (time_seconds clock.time)
    clock.time.subsec_nanosecond later whole clock.time.subsec_in)))

pub returns-in_err-days-clause-none : goal.returns-in_err-days-clause-none
returns-in_err-days-clause-none c =
    let clock = c.to_datetime-clock.result in
    let whole : ((epoch_day clock.date *ℤ pos 86400000000000) +ℤ pos (time_nanos clock.time)) ≡ c.args.now.nanosecond =
    sym (civil_nanos-parts clock) ∙ c.to_datetime-clock.ensures ∙ omega (arith, ints) in
    let apart = rw c.date.ensures at c.in_err-days.ensures.none in
    rw c.from_residual.ensures (elsewhere (epoch_day c.args.day) (epoch_day clock.date) _ (time_seconds clock.time)
    clock.time.subsec_nanosecond apart.0 apart.1 whole
    (omega (arith, clock.time.hour_in, clock.time.minute_in, clock.time.second_in)) clock.time.subsec_in)
