use Rattle.std.proofs.Common.{◌≡◌, ◌∙◌, ap, nat_eq, rules, Some}
use Rattle.std.specs.Option.{option_eq}
use Rattle.casa_plain.proofs.Blocked.{in_slot}
use Rattle.casa_plain.proofs.assignment.is_in_slot.Goals as goal

pub returns : goal.returns
returns c =
    let test : c.eq.result ≡ option_eq nat_eq c.window_of.result (Some c.args.k) = search rules in
    test ∙ ap (λ o. option_eq nat_eq o (Some c.args.k)) c.window_of.ensures.value ∙ in_slot c.args.grid.now c.args.at c.args.k c.window_of.ensures.valid
