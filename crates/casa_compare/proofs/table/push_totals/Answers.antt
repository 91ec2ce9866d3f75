use Rattle.std.proofs.Common.{◌∙◌, ◌++◌, ap}
use Rattle.casa_wire.proofs.Behind.{both}
use Rattle.casa_compare.proofs.table.push_totals.Goals as goal

pub returns : goal.returns
returns c =
    let start = c.args.text.now.items in
    let titled = c.extend_from_slice.new.self.items in
    let based = c.extend_from_slice-2.new.self.items in
    let varied = c.extend_from_slice-3.new.self.items in
    let end = c.extend_from_slice-4.new.self.items in
    both start titled end _ _ c.in_ok-extend_from_slice.ensures.items
    (both titled based end _ _ (c.in_ok-extend_from_slice-2.ensures.items ∙ ap (λ t. titled ++ t) (c.as_slice.ensures.value ∙ c.figures_line.ensures))
    (both based varied end _ _ (c.in_ok-extend_from_slice-3.ensures.items ∙ ap (λ t. based ++ t) (c.as_slice-2.ensures.value ∙ c.figures_line-2.ensures))
    (c.in_ok-extend_from_slice-4.ensures.items ∙ ap (λ t. varied ++ t) (c.as_slice-3.ensures.value ∙ c.changes_line.ensures))))
