use Rattle.std.proofs.Common.{rules, ◌≡◌, Some, sym, ap, ◌∙◌}
use Rattle.std.specs.Option.{option_copied_mut}
use Rattle.casa_filing.specs.Text.{at_name}
use Rattle.casa_table.specs.Passing.{passing}
use Rattle.casa_table.proofs.Over.{idle_goes}
use Rattle.casa_table.proofs.Placed.{others_placed}
use Rattle.casa_table.proofs.flights.take_passing.Goals as goal

pub returns-in-Some : goal.returns-in-Some
returns-in-Some c =
    let there : at_name c.args.passings.now.entries c.args.crossing.now.loc ≡ Some c.in-Some.there.now =
    sym c.get_mut.ensures.value ∙ ap option_copied_mut c.in-Some.is in
    idle_goes c.args.key c.args.crossing.now c.args.present.now _ _
    (sym c.contains.ensures.value ∙ c.if-contains.false)
    (others_placed c.args.crossing.now.loc _ c.remove.new.self c.args.passings.now.entries _
    (passing c.args.key c.args.crossing.now) there
    ((c.get_mut.follows.holds c.remove.new.self).3 (search rules)).0 c.remove.ensures.updates.2)
