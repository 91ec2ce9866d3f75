use Rattle.std.proofs.Common.{◌≡◌, ◌∙◌, ℕ, false, rules, tests, arith}
use Rattle.std.specs.List.{list_any, slice_get}
use Rattle.std.specs.Option.{option_map_or}
use Rattle.std.proofs.lemmas.Iterator.{YieldsList-from_slice}
use Rattle.std.proofs.lemmas.Iterator.Search.{any_from_yields_List}
use Rattle.std.proofs.lemmas.Grind.{common_steps}
use Rattle.casa_grid.specs.Slots.{slots, is_within}
use Rattle.casa_plain.proofs.Blocked.{any_in}
use Rattle.casa_plain.proofs.assignment.is_blocked.Goals as goal

pub returns : goal.returns
returns c =
    let window = slice_get (slots c.args.grid.now) c.args.k in
    let any : c.any.result ≡ list_any (λ (t : ℕ). option_map_or (is_within t) window false) c.args.issued.now =
    any_from_yields_List (λ (t : ℕ). option_map_or (is_within t) window false) _ _ c.any.result c.any.ensures.ran (YieldsList-from_slice c.args.issued.now cc) (λ x b q k. first_of (search (rules, tests), grind (arith, common_steps))) in
    any ∙ any_in c.args.issued.now window
