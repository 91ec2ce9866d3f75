use Rattle.std.proofs.Common.{◌∙◌, sym, rules, length, ◌<◌}
use Rattle.std.specs.List.{list_any}
use Rattle.std.proofs.lemmas.Fn.{filter_same}
use Rattle.casa_filing.specs.Text.{same_text}
use Rattle.casa_filing.specs.declared.plan.Crossing.{Crossing}
use Rattle.casa_import.proofs.Entering.{kept-many}
use Rattle.casa_import.proofs.filing.kept.Goals as goal

pub returns-then-not-is_empty : goal.returns-then-not-is_empty
returns-then-not-is_empty c =
    let many : 32 < length c.args.via.items = search rules in
    let some : 0 < length c.args.locations.now = search rules in
    filter_same _ (λ (x : Crossing). list_any (λ loc. same_text loc x.loc) c.args.locations.now) _ (λ x b q k. (search rules, search rules)) _ _ c.retain.ensures.filtered
    ∙ sym (kept-many c.args.locations.now c.args.via.items many some)
