use Rattle.std.proofs.Common.{◌≡◌, ◌+◌, ℕ, take, ap, ◌∙◌, arith}
use Rattle.std.specs.List.{sum_by}
use Rattle.std.proofs.lemmas.List.Sums.{sum_by_push}
use Rattle.casa_flight.specs.declared.comp.Comp.{Comp}
use Rattle.casa_flight.specs.Listing.{delay_in}
use Rattle.casa_slots.specs.declared.standing.Standing.{Standing}
use Rattle.casa_list.specs.Standings.{standings, count_governed}
use Rattle.casa_engine.specs.Delays.{delay_at, numbered_delay, numbered_delays}
use Rattle.casa_engine.proofs.Delayed.{governed_delays}
use Rattle.casa_engine.proofs.Sums.{sum_by_next}
use Rattle.casa_engine.proofs.audit.push_governed.Goals as goal

pub loop-n-preserved : goal.loop-n-preserved
loop-n-preserved c =
    let list = c.args.list.now in
    let n = c.loop-n.n in
    let pushed : numbered_delays c.push.new.self.items ≡ numbered_delays c.loop-n.flights.items + delay_at list n =
    ap numbered_delays c.in_ok-push.ensures.items ∙ sum_by_push numbered_delay c.loop-n.flights.items (c.args.list, n) in
    omega (arith, pushed, c.loop-n.invariant, sum_by_next (λ (f : Comp × Standing). delay_in list f.0.key) (standings list) n)

pub returns : goal.returns
returns c =
    let list = c.args.list.now in
    let old = numbered_delays c.args.flights.now.items in
    let end : c.loop-n.n ≡ count_governed list =
    omega (arith, c.loop-n-test.false, c.loop-n.auto.n-end, c.governed-n-end.ensures.number) in
    let told : ℕ → ℕ = λ n. sum_by (λ (f : Comp × Standing). delay_in list f.0.key) (take n (standings list)) in
    c.loop-n.invariant ∙ ap (λ (n : ℕ). old + told n) end ∙ ap (λ (sum : ℕ). old + sum) (governed_delays list)
