use Rattle.std.proofs.Common.{◌∙◌, ap, is_some, rules}
use Rattle.std.proofs.lemmas.Fn.{always_returns_same}
use Rattle.casa_filing.specs.Text.{at_name}
use Rattle.casa_flight.specs.Good.{AreInOrder}
use Rattle.casa_filing.proofs.Entries.{text_cmp}
use Rattle.casa_item.proofs.Sorted.{searched}
use Rattle.casa_item.proofs.crossings.Crossings.contains.Goals as goal

pub returns : goal.returns
returns c =
    let q = c.args.id.now in
    let sorted : AreInOrder c.as_slice.result.now = rw c.as_slice.ensures.crossings c.as_slice.ensures.ordered in
    c.is_ok.ensures.value
    ∙ searched q _ sorted _ c.binary_search_by.ensures.bound
    (c.binary_search_by.ensures.position (λ e. text_cmp e.0 q) (always_returns_same _ _ _ (λ a r f' k. search rules)))
    ∙ ap (λ es. is_some (at_name es q)) c.as_slice.ensures.crossings
