use Rattle.std.proofs.Common.{◌≡◌, ◌∙◌, sym, true, length}
use Rattle.std.proofs.lemmas.List.{drop-replicate}
use Rattle.casa_filing.specs.Text.{is_name}
use Rattle.casa_filing.proofs.Names.{inside}
use Rattle.casa_filing.proofs.name.Name.new.Goals as goal

pub invariant_of-result : goal.invariant_of-result
invariant_of-result g c =
    let name : is_name c.args.text.now ≡ true = sym c.is_name.ensures ∙ c.if-not-is_name.false in
    rw c.copy_from_slice.ensures.after (inside c.args.text.now c.split_at_mut-front.result.1.now name (c.split_at_mut-front.ensures.back ∙ drop-replicate (length c.args.text.now) 10 0))
