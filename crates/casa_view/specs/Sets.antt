-- for proofs: equations between standings have one proof
use Rattle.std.specs.Prelude.{ℕ, List, Option}
use Rattle.std.specs.Coded.{coded_list, coded_option, coded_ℕ}
use base.Stored.{Coded-set}
use Rattle.casa_flight.specs.contracts.state.State as state_row
use Rattle.casa_filing.specs.contracts.regulation.Regulation as regulation_row
use Rattle.casa_list.specs.contracts.list.SlotList as list_row
use Rattle.casa_filing.specs.declared.regulation.Regulation.{Regulation}
use Rattle.casa_flight.specs.declared.state.State.{State}
use Rattle.casa_flight.specs.Listing.{Listing}
use Rattle.casa_view.specs.BoardState.{BoardState}

state_set : IsSet State
state_set = Coded-set state_row.the_row.coded

catalogue_set : IsSet (List Regulation)
catalogue_set = Coded-set (coded_list regulation_row.the_row.coded)

list_set : IsSet (Option Listing)
list_set = Coded-set (coded_option list_row.the_row.coded)

stamp_set : IsSet ℕ
stamp_set = Coded-set coded_ℕ

-- equations between standings have one proof
pub board_state_set : IsSet BoardState
board_state_set s t p q = λ i j. record {
  state = state_set s.state t.state (λ k. (p k).state) (λ k. (q k).state) i j;
  catalogue = catalogue_set s.catalogue t.catalogue (λ k. (p k).catalogue) (λ k. (q k).catalogue) i j;
  list = λ id. list_set (s.list id) (t.list id) (λ k. (p k).list id) (λ k. (q k).list id) i j;
  stamp = λ n. stamp_set (s.stamp n) (t.stamp n) (λ k. (p k).stamp n) (λ k. (q k).stamp n) i j;
}
