-- what equal contents say
use Rattle.std.proofs.Common.{◌≡◌, true}
use Rattle.std.proofs.lemmas.Cmp.{nat_list_eq_equiv}
use Rattle.casa_flight.specs.declared.state.State.{State}
use Rattle.casa_filing.specs.Text.{Text, same_text}
use Rattle.casa_flight.specs.State.{row_of, catalogue}
use Rattle.casa_flight.specs.Listing.{list_of}
use Rattle.casa_footprint.specs.Items.{the_catalogue, a_row, a_list, regulations, row_or_none, list_or_none, contents}

pub catalogue_in : (m n : State) → contents m the_catalogue ≡ contents n the_catalogue → catalogue m ≡ catalogue n
catalogue_in m n h = let e : regulations (catalogue m) ≡ regulations (catalogue n) = h in cc

pub row_in : (m n : State) (key : Text) → contents m (a_row key) ≡ contents n (a_row key) → row_of m key ≡ row_of n key
row_in m n key h = let e : row_or_none (row_of m key) ≡ row_or_none (row_of n key) = h in cc

pub list_in : (m n : State) (id : Text) → contents m (a_list id) ≡ contents n (a_list id) → list_of m id ≡ list_of n id
list_in m n id h = let e : list_or_none (list_of m id) ≡ list_or_none (list_of n id) = h in cc

pub text_itself : (a : Text) → same_text a a ≡ true
text_itself = nat_list_eq_equiv.refl
