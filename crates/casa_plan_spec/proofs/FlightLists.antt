-- the change of one flight is what its written row makes of the items
use Rattle.std.proofs.Common.{◌≡◌, List, [], Bool, true, false, refl, sym, ap, ◌∙◌, Option, None, Some, ◌||◌, is_some, if◌then◌else◌}
use Rattle.casa_filing.specs.declared.regulation.Regulation.{Regulation}
use Rattle.casa_flight.specs.declared.row.Row.{Row}
use Rattle.casa_flight.specs.declared.row.Stance.{Stance}
use Rattle.std.specs.Option.{option_map, option_or}
use Rattle.casa_flight.specs.declared.state.State.{State}
use Rattle.casa_filing.specs.Text.{Text, same_text, at_name, put}
use Rattle.casa_flight.specs.State.{row_of, catalogue}
use Rattle.casa_flight.specs.Listing.{list_of}
use Rattle.casa_flight.specs.Good.{IsGood}
use Rattle.casa_footprint.specs.Items.{ItemName, the_clock, the_catalogue, a_row, a_list, row_or_none, list_or_none, contents}
use Rattle.casa_laws.proofs.Outcomes.{set_row}
use Rattle.casa_footprint.proofs.OneFlight.{is_over_in, has_written}
use Rattle.casa_plan_spec.specs.Sight.{Sight, Stand, Written, nothing_written, says, regulations_in, list_in, row_in}
use Rattle.casa_plan_spec.specs.Write.{Stances, with_stands, stances, write_flight}
use Rattle.casa_plan_spec.specs.OneFlight.{flight_written}
use Rattle.casa_plan_spec.proofs.Changes.{at-put_by}
use Rattle.casa_plan_spec.proofs.Board.{Shows, of_shown, whole, whole-list, whole-shown}
use Rattle.casa_plan_spec.proofs.Stances.{AreOnce, at-with_stands, at-with_stances, once-stances, lists_named, set_in, stand_of}
use Rattle.casa_plan_spec.proofs.Written.{stances_named, flight_shown, all_covered}

-- what the change of one flight rests on: the lists that it has or had are shown
pub record Rewrites (v : Sight) (m : State) (key : Text) (now : Option Row) : Type 0 where
  pub good : IsGood m
  pub regulations : regulations_in v ≡ catalogue m
  pub lists : (id : Text) → (is_over_in m (row_of m key) id || is_over_in m now id) ≡ true → list_in v id ≡ list_of m id

-- the change has the row and the lists of the flight, as they are in the state with the written row
pub change_is : (v : Sight) (m : State) (key : Text) (now : Option Row) → Rewrites v m key now → (i : ItemName)
    → says (list_of m) (flight_written v key (row_of m key) now) i
    ≡ (if has_written m key now i then Some (contents (set_row m key now) i) else None)
change_is v m key now r i = ap (λ (w : Written). says (list_of m) w i) same ∙ as_lists i ∙ said i
  where
    u : Sight
    u = whole v m

    es : Stances
    es = stances (catalogue m) (row_of m key) now

    once : AreOnce es
    once = once-stances m (row_of m key) now r.good.regs_in_order

    w : Written
    w = write_flight u nothing_written key now es

    d : Written
    d = record nothing_written { rows = put [] key now; stands = with_stands key [] es }

    same : flight_written v key (row_of m key) now ≡ d
    same =
        ap (λ (rs : List Regulation).
        let x : Written = record nothing_written {
          rows = put [] key now;
          stands = with_stands key [] (stances rs (row_of m key) now);
        } in x) r.regulations

    no_more : {X : Type 0} (o : Option X) → option_or o None ≡ o
    no_more None = refl
    no_more (Some x) = refl

    -- where the lists stand as in the state, this says what the lists with the flight say
    as_lists : (i : ItemName) → says (list_of m) d i ≡ says (list_of m) w i
    as_lists the_clock = refl
    as_lists the_catalogue = refl
    as_lists (a_row q) = refl
    as_lists (a_list id) =
        no_more (option_map (λ (s : Stand). list_or_none (set_in s.0 (list_of m id) s.1)) (at_name (with_stands key [] es) id))
        ∙ ap (option_map (λ (s : Stand). list_or_none (set_in s.0 (list_of m id) s.1)))
        (at-with_stands key [] es id once ∙ no_more (stand_of key (at_name es id)))
        ∙ stood (at_name es id)
        ∙ ap (λ l. option_map list_or_none (option_or (option_map (set_in key l) (at_name es id)) None)) (sym (whole-list v m id))
        ∙ ap (option_map list_or_none) (sym (at-with_stances u key [] es id once))
      where
        stood : (o : Option (Option Stance))
            → option_map (λ (s : Stand). list_or_none (set_in s.0 (list_of m id) s.1)) (stand_of key o)
            ≡ option_map list_or_none (option_or (option_map (set_in key (list_of m id)) o) None)
        stood None = refl
        stood (Some s) = refl

    shows : Shows u w (set_row m key now)
    shows =
        flight_shown u nothing_written m key now es (whole-shown v m) r.good.rows_in_order once
        (all_covered m key (row_of m key) now r.good.regs_in_order (λ id. refl))

    one : (b : Bool) → is_some (if b then Some now else None) ≡ b
    one true = refl
    one false = refl

    said : (i : ItemName) → says (list_of m) w i ≡ (if has_written m key now i then Some (contents (set_row m key now) i) else None)
    said the_clock = refl
    said the_catalogue = refl
    said (a_row q) = of_shown row_or_none (at_name w.rows q) (row_in u q) (row_of (set_row m key now) q) _ (ap is_some (at-put_by q key now []) ∙ one (same_text key q)) (shows.rows q)
    said (a_list id) =
        of_shown list_or_none (at_name w.lists id) (list_in u id) (list_of (set_row m key now) id) _
        (lists_named u key [] es id once ∙ stances_named m (row_of m key) now id r.good.regs_in_order) (shows.lists id)
