use Rattle.std.proofs.Common.{◌≡◌, Some, false, ◌∙◌, ap, sym, is_some}
use Rattle.casa_filing.specs.Text.{at_name}
use Rattle.casa_table.proofs.Layers.{kept-put}
use Rattle.casa_table.proofs.table.keep.Goals as goal
use Rattle.casa_table.proofs.table.keep.Goals.{in-Some+in_ok-try_clone-in-Some, in-None}

pub returns-clause-kept : goal.returns-clause-kept
returns-clause-kept g c =
    let same : c.match-change.change ≡ c.args.change.now =
    elim c.match-change.branch [
      | in-Some+in_ok-try_clone-in-Some w ↦ w.change-is ∙ ap Some w.in_ok-try_clone-in-Some.ensures ∙ sym w.in-Some.is
      | in-None w ↦ w.change-is ∙ sym w.in-None.is
    ] in
    let absent : is_some (at_name c.args.changes.now.entries c.args.name.now) ≡ false = cc in
    λ q. ap (λ es. at_name es q) c.in_ok-insert.ensures.entries
    ∙ (rw same (kept-put c.args.changes.now.entries c.args.name.now q c.args.change.now absent))
