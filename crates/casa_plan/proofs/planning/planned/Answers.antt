use Rattle.casa_flight.specs.declared.call.Call.TheVariants.{File, Amend, Cancel, Revise, Exempt, OpenReg, CloseReg, Rates, Tick, Show, List, Swap}
use Rattle.casa_plan_spec.specs.FlightCalls.{file, amend, cancel, revise, exempt, show}
use Rattle.casa_plan_spec.specs.Opening.{open_reg}
use Rattle.casa_plan_spec.specs.Closing.{close_reg}
use Rattle.casa_plan_spec.specs.NewRates.{rates}
use Rattle.casa_plan_spec.specs.Issue.{tick}
use Rattle.casa_plan_spec.specs.Look.{list}
use Rattle.casa_plan_spec.specs.Swapping.{swap}
use Rattle.casa_plan_spec.proofs.FlightCalls.{file_planned, amend_planned, cancel_planned, revise_planned, exempt_planned, show_planned}
use Rattle.casa_plan_spec.proofs.Opens.{open_planned}
use Rattle.casa_plan_spec.proofs.Closes.{close_planned}
use Rattle.casa_plan_spec.proofs.NewRates.{rates_planned}
use Rattle.casa_plan_spec.proofs.Ticks.{tick_planned}
use Rattle.casa_plan_spec.proofs.Listed.{list_planned}
use Rattle.casa_plan_spec.proofs.Swaps.{swap_planned}
use Rattle.casa_plan.proofs.Answered.{answered}
use Rattle.casa_plan.proofs.planning.planned.Goals as goal

pub returns-in-File : goal.returns-in-File
returns-in-File g c =
    let v = c.args.view.now in
    answered v c.args.call.now (File c.in-File.plan) (file v c.in-File.plan) c.file.result c.in-File.is c.file.ensures (file_planned v c.in-File.plan)

pub returns-in-Amend : goal.returns-in-Amend
returns-in-Amend g c =
    let v = c.args.view.now in
    answered v c.args.call.now (Amend c.in-Amend.plan) (amend v c.in-Amend.plan) c.amend.result c.in-Amend.is c.amend.ensures (amend_planned v c.in-Amend.plan)

pub returns-in-Cancel : goal.returns-in-Cancel
returns-in-Cancel g c =
    let v = c.args.view.now in
    answered v c.args.call.now (Cancel c.in-Cancel.key) (cancel v c.in-Cancel.key) c.cancel.result c.in-Cancel.is c.cancel.ensures (cancel_planned v c.in-Cancel.key)

pub returns-in-Revise : goal.returns-in-Revise
returns-in-Revise g c =
    let v = c.args.view.now in
    answered v c.args.call.now (Revise c.in-Revise.key) (revise v c.in-Revise.key) c.revise.result c.in-Revise.is c.revise.ensures (revise_planned v c.in-Revise.key)

pub returns-in-Exempt : goal.returns-in-Exempt
returns-in-Exempt g c =
    let v = c.args.view.now in
    answered v c.args.call.now (Exempt c.in-Exempt.key) (exempt v c.in-Exempt.key) c.exempt.result c.in-Exempt.is c.exempt.ensures (exempt_planned v c.in-Exempt.key)

pub returns-in-OpenReg : goal.returns-in-OpenReg
returns-in-OpenReg g c =
    let v = c.args.view.now in
    answered v c.args.call.now (OpenReg c.in-OpenReg.id c.in-OpenReg.loc c.in-OpenReg.profile) (open_reg v c.in-OpenReg.id c.in-OpenReg.loc c.in-OpenReg.profile) c.open_reg.result c.in-OpenReg.is c.open_reg.ensures (open_planned v c.in-OpenReg.id c.in-OpenReg.loc c.in-OpenReg.profile)

pub returns-in-CloseReg : goal.returns-in-CloseReg
returns-in-CloseReg g c =
    let v = c.args.view.now in
    answered v c.args.call.now (CloseReg c.in-CloseReg.id) (close_reg v c.in-CloseReg.id) c.close_reg.result c.in-CloseReg.is c.close_reg.ensures (close_planned v c.in-CloseReg.id)

pub returns-in-Rates : goal.returns-in-Rates
returns-in-Rates g c =
    let v = c.args.view.now in
    answered v c.args.call.now (Rates c.in-Rates.id c.in-Rates.profile) (rates v c.in-Rates.id c.in-Rates.profile) c.rates.result c.in-Rates.is c.rates.ensures (rates_planned v c.in-Rates.id c.in-Rates.profile)

pub returns-in-Tick : goal.returns-in-Tick
returns-in-Tick g c =
    let v = c.args.view.now in
    answered v c.args.call.now (Tick c.in-Tick.at) (tick v c.in-Tick.at) c.tick.result c.in-Tick.is c.tick.ensures (tick_planned v c.in-Tick.at)

pub returns-in-Show : goal.returns-in-Show
returns-in-Show g c =
    let v = c.args.view.now in
    answered v c.args.call.now (Show c.in-Show.key) (show v c.in-Show.key) c.show.result c.in-Show.is c.show.ensures (show_planned v c.in-Show.key)

pub returns-in-List : goal.returns-in-List
returns-in-List g c =
    let v = c.args.view.now in
    answered v c.args.call.now (List c.in-List.id) (list v c.in-List.id) c.list.result c.in-List.is c.list.ensures (list_planned v c.in-List.id)

pub returns-in-Swap : goal.returns-in-Swap
returns-in-Swap g c =
    let v = c.args.view.now in
    answered v c.args.call.now (Swap c.in-Swap.key c.in-Swap.other) (swap v c.in-Swap.key c.in-Swap.other) c.swap.result c.in-Swap.is c.swap.ensures (swap_planned v c.in-Swap.key c.in-Swap.other)
