use Rattle.std.proofs.Common.{◌≡◌, true, refl, sym, ◌∙◌}
use Rattle.std.specs.Option.{option_map}
use Rattle.casa_filing.specs.Text.{Text, at_name}
use Rattle.casa_table.specs.Same.{same_version}
use Rattle.casa_table.proofs.Compared.{each-earlier}
use Rattle.casa_table.proofs.validation.same_under.Goals as goal

pub returns-then-not-same_at-clause-every : goal.returns-then-not-same_at-clause-every
returns-then-not-same_at-clause-every g c = λ h. c.if-not-same_at.ensures.same ∙ h c.in-Some.name.now

pub loop-name-preserved : goal.loop-name-preserved
loop-name-preserved g c =
    let table = c.args.table.now.entries in
    let shared = c.args.shared.now in
    λ q later. c.loop-name.invariant q
    (each-earlier (λ (p : Text) x. (same_version g.V.Version.is_same (at_name table p) (at_name shared p) ≡ true)
    × (option_map g.V.Version.item_of (at_name table p) ≡ option_map g.V.Version.item_of (at_name shared p)))
    c.loop-name.name-iterator c.next.new.self c.in-Some.name.now _ c.in-Some.ensures.steps
    (sym c.if-not-same_at.ensures.same, c.if-not-same_at.ensures.shows refl) q later)
