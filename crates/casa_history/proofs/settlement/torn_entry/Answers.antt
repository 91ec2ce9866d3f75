use Rattle.std.proofs.Common.{◌≢◌, [], map, Contains, List, rules, arith, sym, subst, refl}
use Rattle.casa_history.specs.declared.entry.Entry.{Entry}
use Rattle.std.proofs.lemmas.Grind.{common_steps}
use Rattle.casa_history.specs.Entries.{entries}
use Rattle.casa_history.specs.Settlement.{passes_of}
use Rattle.casa_history.proofs.Settling.{torn_without_pass}
use Rattle.casa_history.proofs.settlement.torn_entry.Goals as goal
use Rattle.casa_history.proofs.settlement.torn_entry.Goals.{then-precedes+then-not-has_pass, else-precedes, else-precedes-via-then-precedes+else-not-has_pass, else-precedes-via-else-precedes}

pub loop-entry-preserved : goal.loop-entry-preserved
loop-entry-preserved g c =
    let es = entries c.args.history.now in
    let ps = map g.P.Holds.held c.args.passes.now in
    let e = c.deref.result.now in
    elim c.if-precedes.branch [
      | then-precedes+then-not-has_pass w ↦
          let none : passes_of e.desk ps ≢ [] → ⊥ = search (rules, w.has_pass.ensures, w.if-not-has_pass.true) in
          let item : Contains es c.entry-item.result =
          subst (λ (xs : List (Entry g.row.C.Denot g.row.R.Denot)). Contains xs c.entry-item.result)
          c.entries-entry-items.ensures (c.loop-entry.entry-index, c.loop-entry-test.true, sym c.entry-item.is) in
          let among : Contains es e =
          subst (λ (x : Entry g.row.C.Denot g.row.R.Denot). Contains es x) (sym c.deref.ensures) item in
          record {
            torn = rw w.torn-is (torn_without_pass e.desk es ps e among refl none);
            others = grind (arith, common_steps);
          }
      | else-precedes w ↦ record {
        torn = rw w.torn-is c.loop-entry.invariant.torn;
        others = grind (arith, common_steps);
      }
    ]
