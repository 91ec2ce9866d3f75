-- the laws, call by call
use Rattle.casa_flight.specs.declared.call.Call.{Call}
use Rattle.casa_flight.specs.declared.call.Call.TheVariants.{File, Amend, Cancel, Revise, Exempt, OpenReg, CloseReg, Rates, Tick, Show, List as ListOf, Swap}
use Rattle.casa_footprint.proofs.Forms.{DecidesReads, Spares}
use Rattle.casa_footprint.proofs.FlightCalls.{file_reads, file_spares, amend_reads, amend_spares, cancel_reads, cancel_spares, revise_reads, revise_spares, exempt_reads, exempt_spares}
use Rattle.casa_footprint.proofs.ShowList.{show_reads, show_spares, list_reads, list_spares}
use Rattle.casa_footprint.proofs.Rates.{rates_reads, rates_spares}
use Rattle.casa_footprint.proofs.Whole.{tick_reads, tick_spares, open_reads, close_reads}
use Rattle.casa_footprint.proofs.OpenClose.{open_spares, close_spares}
use Rattle.casa_footprint.proofs.Swap.{swap_reads, swap_spares}

pub reads_same : (call : Call) → DecidesReads call
reads_same (File plan) = file_reads plan
reads_same (Amend plan) = amend_reads plan
reads_same (Cancel key) = cancel_reads key
reads_same (Revise key) = revise_reads key
reads_same (Exempt key) = exempt_reads key
reads_same (OpenReg id loc profile) = open_reads id loc profile
reads_same (CloseReg id) = close_reads id
reads_same (Rates id profile) = rates_reads id profile
reads_same (Tick at) = tick_reads at
reads_same (Show key) = show_reads key
reads_same (ListOf id) = list_reads id
reads_same (Swap key other) = swap_reads key other

pub spares : (call : Call) → Spares call
spares (File plan) = file_spares plan
spares (Amend plan) = amend_spares plan
spares (Cancel key) = cancel_spares key
spares (Revise key) = revise_spares key
spares (Exempt key) = exempt_spares key
spares (OpenReg id loc profile) = open_spares id loc profile
spares (CloseReg id) = close_spares id
spares (Rates id profile) = rates_spares id profile
spares (Tick at) = tick_spares at
spares (Show key) = show_spares key
spares (ListOf id) = list_spares id
spares (Swap key other) = swap_spares key other
