use Rattle.std.proofs.Common.{◌||◌, Bool, true, false, None, Some, refl, ap, ◌∙◌}
use Rattle.casa_filing.specs.Text.{Text, same_text}
use Rattle.casa_footprint.specs.Items.{ItemName}
use Rattle.casa_item.specs.Versions.{regulations_of}
use Rattle.casa_view.specs.Board.{versions}
use Rattle.casa_view.specs.Taking.{meets_either, is_of, name_test, plan_at, governing_at, forced_at, governs_forced_at}
use Rattle.casa_view.specs.Taking.{extends_in, read_by_rates}
use Rattle.casa_view.proofs.WhatIsRead.{is_read, file_reads, amend_reads, cancel_reads, revise_reads, exempt_reads}
use Rattle.casa_view.proofs.WhatIsRead.{rates_reads, show_reads, list_reads, swap_reads}
use Rattle.casa_view.proofs.items.Items.view.Goals as goal

pub returns-in-File : goal.returns-in-File
returns-in-File g c =
    let vs = versions c.args.self.now in
    let item_of = g.V.Version.item_of in
    let stamp_of = g.V.Version.stamp_of in
    let plan = c.in-File.plan in
    is_read item_of stamp_of vs _ _ c.in-File.is
    (name_test true true (same_text plan.key) (meets_either (regulations_of (item_of vs.catalogue)) None (Some plan)))
    _ c.file_view.ensures
    (λ well i. file_reads item_of stamp_of vs c.requires.rows well plan i)

pub returns-in-Amend : goal.returns-in-Amend
returns-in-Amend g c =
    let vs = versions c.args.self.now in
    let item_of = g.V.Version.item_of in
    let stamp_of = g.V.Version.stamp_of in
    let regs = regulations_of (item_of vs.catalogue) in
    let plan = c.in-Amend.plan in
    let test : Text → ItemName → Bool =
    λ k. name_test true true (same_text k) (meets_either regs (plan_at item_of vs k) (Some plan)) in
    is_read item_of stamp_of vs _ _ c.in-Amend.is
    (test c.key.result)
    _ c.flight_view.ensures
    (λ well i. ap (λ (k : Text). test k i) c.key.ensures
    ∙ amend_reads item_of stamp_of vs c.requires.rows well plan i)

pub returns-in-Cancel : goal.returns-in-Cancel
returns-in-Cancel g c =
    let vs = versions c.args.self.now in
    let item_of = g.V.Version.item_of in
    let stamp_of = g.V.Version.stamp_of in
    let key = c.in-Cancel.key in
    is_read item_of stamp_of vs _ _ c.in-Cancel.is
    (name_test false true (same_text key) (meets_either (regulations_of (item_of vs.catalogue)) (plan_at item_of vs key) None))
    _ c.flight_view-in-Cancel.ensures
    (λ well i. cancel_reads item_of stamp_of vs c.requires.rows well key i)

pub returns-in-Revise : goal.returns-in-Revise
returns-in-Revise g c =
    let vs = versions c.args.self.now in
    let item_of = g.V.Version.item_of in
    let stamp_of = g.V.Version.stamp_of in
    let key = c.in-Revise.key in
    is_read item_of stamp_of vs _ _ c.in-Revise.is
    (name_test true true (same_text key) (meets_either (regulations_of (item_of vs.catalogue)) (plan_at item_of vs key) None))
    _ c.flight_view-in-Revise.ensures
    (λ well i. revise_reads item_of stamp_of vs c.requires.rows well key i)

pub returns-in-Exempt : goal.returns-in-Exempt
returns-in-Exempt g c =
    let vs = versions c.args.self.now in
    let item_of = g.V.Version.item_of in
    let stamp_of = g.V.Version.stamp_of in
    let key = c.in-Exempt.key in
    is_read item_of stamp_of vs _ _ c.in-Exempt.is
    (name_test false true (same_text key) (meets_either (regulations_of (item_of vs.catalogue)) (plan_at item_of vs key) None))
    _ c.flight_view-in-Exempt.ensures
    (λ well i. exempt_reads item_of stamp_of vs c.requires.rows well key i)

pub returns-in-OpenReg : goal.returns-in-OpenReg
returns-in-OpenReg g c =
    is_read g.V.Version.item_of g.V.Version.stamp_of (versions c.args.self.now) _ _ c.in-OpenReg.is
    (λ i. true) _ c.whole_view.ensures (λ well i. refl)

pub returns-in-CloseReg : goal.returns-in-CloseReg
returns-in-CloseReg g c =
    is_read g.V.Version.item_of g.V.Version.stamp_of (versions c.args.self.now) _ _ c.in-CloseReg.is
    (λ i. true) _ c.whole_view-in-CloseReg.ensures (λ well i. refl)

pub returns-in-Tick : goal.returns-in-Tick
returns-in-Tick g c =
    is_read g.V.Version.item_of g.V.Version.stamp_of (versions c.args.self.now) _ _ c.in-Tick.is
    (λ i. true) _ c.whole_view-in-Tick.ensures (λ well i. refl)

pub returns-in-Rates : goal.returns-in-Rates
returns-in-Rates g c =
    let vs = versions c.args.self.now in
    let item_of = g.V.Version.item_of in
    let stamp_of = g.V.Version.stamp_of in
    let id = c.in-Rates.id in
    let profile = c.in-Rates.profile in
    is_read item_of stamp_of vs _ _ c.in-Rates.is
    (read_by_rates id (extends_in (regulations_of (item_of vs.catalogue)) id profile))
    _ c.rates_view.ensures
    (λ well i. rates_reads item_of stamp_of vs c.requires.rows well id profile i)

pub returns-in-Show : goal.returns-in-Show
returns-in-Show g c =
    let vs = versions c.args.self.now in
    let item_of = g.V.Version.item_of in
    let stamp_of = g.V.Version.stamp_of in
    let key = c.in-Show.key in
    is_read item_of stamp_of vs _ _ c.in-Show.is
    (name_test false false (same_text key) (is_of (governing_at item_of vs key)))
    _ c.show_view.ensures
    (λ well i. show_reads item_of stamp_of vs c.requires.rows well key i)

pub returns-in-List : goal.returns-in-List
returns-in-List g c =
    let vs = versions c.args.self.now in
    let item_of = g.V.Version.item_of in
    let stamp_of = g.V.Version.stamp_of in
    let id = c.in-List.id in
    is_read item_of stamp_of vs _ _ c.in-List.is
    (name_test false true (forced_at item_of vs id) (λ q. same_text id q || governs_forced_at item_of vs id q))
    _ c.list_view.ensures
    (λ well i. list_reads item_of stamp_of vs c.requires.rows well id i)

pub returns-in-Swap : goal.returns-in-Swap
returns-in-Swap g c =
    let vs = versions c.args.self.now in
    let item_of = g.V.Version.item_of in
    let stamp_of = g.V.Version.stamp_of in
    let key = c.in-Swap.key in
    let other = c.in-Swap.other in
    is_read item_of stamp_of vs _ _ c.in-Swap.is
    (name_test true false (λ q. same_text key q || same_text other q)
    (λ q. is_of (governing_at item_of vs key) q || is_of (governing_at item_of vs other) q))
    _ c.swap_view.ensures
    (λ well i. swap_reads item_of stamp_of vs c.requires.rows well key other i)
