use Rattle.std.proofs.Common.{◌≡◌, ℕ, ◌-◌, Option, sym, ap, ◌∙◌, arith}
use Rattle.std.specs.Option.{option_map_or}
use Rattle.casa_engine.proofs.Delayed.{nth_delay}
use Rattle.casa_engine.proofs.audit.delay_of.Goals as goal

pub returns-in-Some-cto_of-clause-value : goal.returns-in-Some-cto_of-clause-value
returns-in-Some-cto_of-clause-value c =
    let comp = c.in-Some.comp in
    let cto = c.in-Some-cto_of.cto in
    let less : c.saturating_sub.result ≡ cto - comp.eto = omega arith in
    less ∙ ap (λ (o : Option ℕ). option_map_or (λ (cto : ℕ). cto - comp.eto) o 0) c.in-Some-cto_of.ensures
    ∙ nth_delay c.args.list.now c.args.n (comp, c.in-Some.field-0-1) c.in-Some.ensures.keys (sym c.in-Some.ensures.flight)
