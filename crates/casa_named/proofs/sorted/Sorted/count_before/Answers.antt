use Rattle.std.proofs.Common.{◌∙◌, ap, rules}
use Rattle.std.specs.Ordering.{is_lt, nat_cmp}
use Rattle.std.specs.Cmp.Lexicographic.{slice_cmp}
use Rattle.std.proofs.lemmas.List.Sorted.{IsPartitionPoint-from_clause}
use Rattle.casa_filing.specs.Text.{Text}
use Rattle.casa_flight.specs.Good.{AreInOrder}
use Rattle.casa_list.specs.Standings.{count_before}
use Rattle.casa_list.proofs.Keyed.{keys_parted}
use Rattle.casa_named.proofs.Counted.{counted}
use Rattle.casa_named.proofs.sorted.Sorted.count_before.Goals as goal

pub returns-clause-number : goal.returns-clause-number
returns-clause-number g c =
    let k = c.args.name.now in
    let before = λ (e : Text × g.row.X.Denot). is_lt (slice_cmp nat_cmp e.0 k) in
    let sorted : AreInOrder c.deref.result.now = rw c.deref.ensures.value c.self.invariant in
    let point = IsPartitionPoint-from_clause before _ _ c.partition_point.ensures.partitioned (keys_parted k _ sorted) (λ a r q h. search rules) in
    counted before _ _ c.partition_point.ensures.bound point
    ∙ ap (λ es. count_before es k) (c.deref.ensures.value ∙ c.self.view_is)
