use Rattle.std.proofs.Common.{◌≡◌, ◌∙◌, length, arith, rules}
use Rattle.std.proofs.lemmas.List.FromFn.{map-range_with_len_more}
use Rattle.casa_grid.specs.Slots.{slots, begin_at}
use Rattle.casa_inquiry.proofs.Steps.{all_begins}
use Rattle.casa_inquiry.proofs.load.begins_of.Goals as goal

pub slots-preserved : goal.slots-preserved
slots-preserved c = rw (map-range_with_len_more (begin_at (slots c.args.grid.now)) 0 c.slots.k c.slots.k (omega arith)) (search rules)

pub returns : goal.returns
returns c =
    let all : c.slots.k ≡ length (slots c.args.grid.now) = omega (arith, c.len-k-end.ensures, c.slots-test.false, c.slots.auto.k-end) in
    (rw all at c.slots.invariant) ∙ all_begins (slots c.args.grid.now)
