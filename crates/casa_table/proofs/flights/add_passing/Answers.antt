use Rattle.std.proofs.Common.{rules, ◌≡◌, Some, None, true, cond, sym, ap, ◌∙◌}
use Rattle.std.specs.Option.{option_copied_mut}
use Rattle.std.specs.BTreeMap.{BTreeMap, is_at}
use Rattle.std.specs.BTreeSet.{BTreeSet}
use Rattle.casa_filing.specs.Text.{Text, at_name}
use Rattle.casa_filing.proofs.Entries.{text_cmp}
use Rattle.casa_table.specs.declared.flights.Passing.{Passing}
use Rattle.casa_table.specs.Passing.{has_passing}
use Rattle.casa_table.proofs.Placed.{more_placed}
use Rattle.casa_table.proofs.flights.add_passing.Goals as goal

pub returns-in_err-insert-in-Some-clause-stays : goal.returns-in_err-insert-in-Some-clause-stays
returns-in_err-insert-in-Some-clause-stays c =
    let there : at_name c.args.passings.now.entries c.args.crossing.now.loc ≡ Some c.in-Some.there.now =
    sym c.get_mut.ensures.value ∙ ap option_copied_mut c.in-Some.is in
    let kept : (p : Passing) → has_passing c.in-Some.there.now.keys p ≡ true
    → has_passing c.insert.new.self.keys p ≡ true = search rules in
    more_placed c.args.crossing.now.loc _ c.insert.new.self c.args.passings.now.entries _ there
    ((c.get_mut.follows.holds c.insert.new.self).3 (search rules)).0 kept

pub returns-in_ok-insert-in-Some-clause-stays : goal.returns-in_ok-insert-in-Some-clause-stays
returns-in_ok-insert-in-Some-clause-stays c =
    let there : at_name c.args.passings.now.entries c.args.crossing.now.loc ≡ Some c.in-Some.there.now =
    sym c.get_mut.ensures.value ∙ ap option_copied_mut c.in-Some.is in
    let kept : (p : Passing) → has_passing c.in-Some.there.now.keys p ≡ true
    → has_passing c.insert.new.self.keys p ≡ true = search rules in
    more_placed c.args.crossing.now.loc _ c.insert.new.self c.args.passings.now.entries _ there
    ((c.get_mut.follows.holds c.insert.new.self).3 (search rules)).0 kept

pub returns-in_ok-insert-in-None-2-clause-stays : goal.returns-in_ok-insert-in-None-2-clause-stays
returns-in_ok-insert-in-None-2-clause-stays c =
    let none : at_name c.args.passings.now.entries c.args.crossing.now.loc ≡ None =
    sym c.get_mut.ensures.value ∙ ap option_copied_mut c.in-None.is in
    more_placed c.args.crossing.now.loc None c.insert-in-None.new.self c.args.passings.now.entries _ none
    (λ q. c.in_ok-insert-in-None-2.ensures.updates.0 q
    ∙ ap (λ (m : BTreeMap Text (BTreeSet Passing)). cond (is_at (text_cmp c.args.crossing.now.loc) q) (Some c.insert-in-None.new.self) (at_name m.entries q)) c.get_mut.follows.holds-at-none)
    (λ p h. cc)
