use Rattle.std.proofs.Common.{subst}
use Rattle.std.proofs.lemmas.Result.{on_ok_weaker}
use Rattle.casa_item.specs.Versions.{moment_of, regulations_of}
use Rattle.casa_view.specs.Next.{AreAlike, NextOne, NextRow}
use Rattle.casa_view.proofs.staging.fit_others.Goals as goal

pub returns-clause-ready : goal.returns-clause-ready
returns-clause-ready g c =
    let version = g.K.Version.Version in
    let n = c.args.position in
    on_ok_weaker c.fit.result
    (λ laid. record {
      clock = subst (λ at. NextOne version.item_of version.stamp_of n moment_of at c.in_ok-items.field-0) c.clock.ensures c.in_ok-items.ensures;
      catalogue = subst (λ all. NextOne version.item_of version.stamp_of n regulations_of all c.in_ok-items-2.field-0) c.catalogue.ensures c.in_ok-items-2.ensures;
      rows = c.in_ok-rows.rows.entries;
      in_order = c.in_ok-rows.ensures.ordered;
      alike = subst (λ es. AreAlike (NextRow version.item_of version.stamp_of n) es c.in_ok-rows.rows.entries) c.rows.ensures c.in_ok-rows.ensures.versions;
      laid = laid;
    })
    c.fit.ensures.next
