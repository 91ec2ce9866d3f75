use Rattle.std.proofs.Common.{rules, ◌≡◌, Some, None, cond, sym, ap, ◌∙◌}
use Rattle.std.specs.Option.{option_copied_mut}
use Rattle.std.specs.BTreeMap.{is_at}
use Rattle.casa_filing.specs.Text.{at_name}
use Rattle.casa_filing.proofs.Entries.{text_cmp}
use Rattle.casa_import.proofs.Lookups.{found-more}
use Rattle.casa_import.proofs.crossings.Crossings.push.Goals as goal

pub returns-in-Some : goal.returns-in-Some
returns-in-Some c =
    let there : at_name c.args.self.now.flights.entries c.args.key ≡ Some c.in-Some.via.now =
    sym c.get_mut.ensures.value ∙ ap option_copied_mut c.in-Some.is in
    found-more (λ via. via.items) c.args.key _ c.push.new.self c.args.self.now.flights.entries _ c.args.crossing there
    ((c.get_mut.follows.holds c.push.new.self).3 (search rules)).0 (search rules)

pub returns : goal.returns
returns c =
    let none : at_name c.args.self.now.flights.entries c.args.key ≡ None =
    sym c.get_mut.ensures.value ∙ ap option_copied_mut c.in_default.is in
    found-more (λ via. via.items) c.args.key None c.push-2.new.self c.args.self.now.flights.entries _ c.args.crossing none
    (λ q. c.in_ok-insert.ensures.updates.0 q
    ∙ ap (λ m. cond (is_at (text_cmp c.args.key) q) (Some c.push-2.new.self) (at_name m.entries q)) c.get_mut.follows.holds-at-none)
    (search rules)
