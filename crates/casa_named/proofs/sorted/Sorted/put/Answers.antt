use Rattle.std.proofs.Common.{◌∙◌, ◌<◌, ◌≤◌, ap, sym, subst, length, rules}
use Rattle.casa_filing.specs.Text.{put}
use Rattle.casa_flight.specs.Good.{AreInOrder}
use Rattle.casa_filing.proofs.Entries.{sorted-put}
use Rattle.casa_list.proofs.Keyed.{hit_within, hit_put, gap_within, gap_put}
use Rattle.casa_named.proofs.sorted.Sorted.put.Goals as goal

pub index_mut-requires : goal.index_mut-requires
index_mut-requires g c =
    let found = rw (← c.self.view_is) at c.in-Ok.ensures.place in
    let within : c.in-Ok.at < length c.self.inside.entries.items = hit_within _ _ _ c.self.invariant found in
    search rules

pub invariant_of-self : goal.invariant_of-self
invariant_of-self g c =
    let es = c.self.inside.entries.items in
    let found = rw (← c.self.view_is) at c.in-Ok.ensures.place in
    subst AreInOrder (sym (hit_put es _ _ c.self.invariant c.args.value found)) (sorted-put c.args.name c.args.value es c.self.invariant)

pub returns-in-Ok-clause-put : goal.returns-in-Ok-clause-put
returns-in-Ok-clause-put g c =
    let es = c.self.inside.entries.items in
    let found = rw (← c.self.view_is) at c.in-Ok.ensures.place in
    hit_put es _ _ c.self.invariant c.args.value found ∙ ap (λ fs. put fs c.args.name c.args.value) c.self.view_is

pub insert-requires : goal.insert-requires
insert-requires g c =
    let missing = rw (← c.self.view_is) at c.in-Err.ensures.place in
    let within : c.in-Err.at ≤ length c.self.inside.entries.items = gap_within _ _ _ missing in
    search rules

pub invariant_of-self-in-Err : goal.invariant_of-self-in-Err
invariant_of-self-in-Err g c =
    let es = c.self.inside.entries.items in
    let missing = rw (← c.self.view_is) at c.in-Err.ensures.place in
    subst AreInOrder (sym (c.in_ok-insert-in-Err.ensures.items ∙ gap_put es _ _ c.args.value missing)) (sorted-put c.args.name c.args.value es c.self.invariant)

pub returns-in_ok-insert-in-Err-clause-put : goal.returns-in_ok-insert-in-Err-clause-put
returns-in_ok-insert-in-Err-clause-put g c =
    let es = c.self.inside.entries.items in
    let missing = rw (← c.self.view_is) at c.in-Err.ensures.place in
    c.in_ok-insert-in-Err.ensures.items ∙ gap_put es _ _ c.args.value missing ∙ ap (λ fs. put fs c.args.name c.args.value) c.self.view_is
