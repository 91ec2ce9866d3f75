-- for proofs: what a change says where a board keeps the lists of its state
use Rattle.std.proofs.Common.{Option, subst}
use Rattle.casa_flight.specs.declared.call.Call.{Call}
use Rattle.casa_filing.specs.Text.{Text}
use Rattle.casa_flight.specs.Listing.{Listing, list_of}
use Rattle.casa_footprint.specs.Change.{IsChange}
use Rattle.casa_plan_spec.specs.Sight.{Written, says}
use Rattle.casa_view.specs.BoardState.{BoardState, IsGoodBoard}

pub says_kept_lists : {s : BoardState} (d : Written) (call : Call) → IsGoodBoard s
    → IsChange s.state call (says (list_of s.state) d) → IsChange s.state call (says s.list d)
says_kept_lists {s} d call well = subst (λ (lists : Text → Option Listing). IsChange s.state call (says lists d)) (λ i id. well.list_is id i)
