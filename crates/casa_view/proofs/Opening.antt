-- the versions of an empty board
use Rattle.std.proofs.Common.{◌≡◌, ℕ, [], refl, ap, ◌∙◌, None}
use Rattle.casa_footprint.specs.Items.{ItemName, the_clock, the_catalogue, a_row, a_list}
use Rattle.casa_item.specs.declared.item.Item.{Item}
use Rattle.casa_item.specs.declared.item.Item.TheVariants.{Clock, Catalogue}
use Rattle.casa_item.specs.Versions.{Versions, measures, moment_of, regulations_of, shown_state, stamp_at, list_at}
use Rattle.casa_view.specs.BoardState.{board_state, opening}

module _ {V : Type 0} (item_of : V → Item) (stamp_of : V → ℕ) (vs : Versions V) (clock_is : item_of vs.clock ≡ Clock 0)
    (catalogue_is : item_of vs.catalogue ≡ Catalogue []) (clock_number : stamp_of vs.clock ≡ 0)
    (catalogue_number : stamp_of vs.catalogue ≡ 0)
    (rows : vs.rows ≡ []) (lists : vs.lists ≡ []) where
  abbrev bare : Versions V
  bare = record { clock = vs.clock; catalogue = vs.catalogue; rows = []; lists = [] }

  no_stamp : (i : ItemName) → stamp_at stamp_of bare i ≡ 0
  no_stamp the_clock = clock_number
  no_stamp the_catalogue = catalogue_number
  no_stamp (a_row key) = refl
  no_stamp (a_list id) = refl

  bare_opens : board_state item_of stamp_of bare ≡ opening
  bare_opens = λ j. record {
    state = record { clock = moment_of (clock_is j); regs = regs j; rows = [] };
    catalogue = regulations_of (catalogue_is j);
    list = λ id. None;
    stamp = λ i. no_stamp i j;
  }
    where
      regs : (shown_state item_of bare).regs ≡ []
      regs = ap (λ (item : Item). measures (regulations_of item) (list_at item_of bare)) catalogue_is

  pub opened : board_state item_of stamp_of vs ≡ opening
  opened =
      (λ j. board_state item_of stamp_of
      (record { clock = vs.clock; catalogue = vs.catalogue; rows = rows j; lists = lists j })) ∙ bare_opens
