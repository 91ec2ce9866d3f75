-- a change, laid over what a view shows
use Rattle.std.proofs.Common.{◌≡◌, List, [], ◌∷◌, map, Bool, true, false, cond, refl, sym, ap, ◌∙◌, Option, None, Some, is_some, if◌then◌else◌, unwrap_or}
use Rattle.std.specs.Option.{option_map, option_flatten, option_or}
use Rattle.std.specs.Ordering.{is_eq}
use Rattle.casa_flight.specs.declared.call.Call.{Call}
use Rattle.casa_filing.specs.declared.regulation.Measure.{Measure}
use Rattle.casa_flight.specs.declared.row.Row.{Row}
use Rattle.casa_flight.specs.declared.state.State.{State}
use Rattle.casa_filing.specs.Text.{Text, same_text, at_name}
use Rattle.casa_flight.specs.State.{row_of, with_row}
use Rattle.casa_flight.specs.Listing.{Listing, listing, list_of}
use Rattle.casa_filing.proofs.Entries.{text_cmp, same_name}
use Rattle.casa_footprint.specs.Items.{the_clock, the_catalogue, a_row, a_list, moment, regulations, row_or_none, list_or_none}
use Rattle.casa_footprint.specs.Footprint.{would_write}
use Rattle.casa_flight.specs.State.{catalogue}
use Rattle.casa_plan_spec.specs.Sight.{Sight, Written, nothing_written, row_in, list_in, row_with, list_with, with_flight, Stand}
use Rattle.casa_plan_spec.proofs.Changes.{Says, at-put_by}

-- with the change, what the view shows are the flights and the lists of this state
pub record Shows (v : Sight) (w : Written) (s : State) : Type 0 where
  pub rows : (key : Text) → row_with v w key ≡ row_of s key
  pub lists : (id : Text) → list_with v w id ≡ list_of s id
  pub stands : w.stands ≡ []

-- the lists of the open regulations, as a view shows them
abbrev lists_of : List (Text × Row) → List (Text × Measure) → List (Text × Option Listing)
lists_of rows regs = map (λ (e : Text × Measure). (e.0, Some (listing rows e.0 e.1))) regs

list-among : (rows : List (Text × Row)) (id : Text) (regs : List (Text × Measure)) → option_flatten (at_name (lists_of rows regs) id) ≡ option_map (listing rows id) (at_name regs id)
list-among rows id [] = refl
list-among rows id (e ∷ es) =
    elim (is_eq (text_cmp id e.0)) as (λ b. is_eq (text_cmp id e.0) ≡ b → option_flatten (cond b (Some (Some (listing rows e.0 e.1))) (at_name (lists_of rows es) id)) ≡ option_map (listing rows id) (cond b (Some e.1) (at_name es id))) [
      | true ↦ λ t. ap (λ (k : Text). Some (listing rows k e.1)) (sym (same_name id e.0 t))
      | false ↦ λ t. list-among rows id es
    ] refl

-- a view as if it showed a whole state
abbrev pub whole : Sight → State → Sight
whole v m = record v { rows = m.rows; lists = lists_of m.rows m.regs }

pub whole-list : (v : Sight) (m : State) (id : Text) → list_in (whole v m) id ≡ list_of m id
whole-list v m id = list-among m.rows id m.regs

pub whole-shown : (v : Sight) (m : State) → Shows (whole v m) nothing_written m
whole-shown v m = record { rows = λ key. refl; lists = whole-list v m; stands = refl }

-- what a change has of an item is what it has of the state, where it has anything
pub of_shown : {X Y : Type 0} (f : X → Y) (o : Option X) (x y : X) (b : Bool) → is_some o ≡ b → unwrap_or o x ≡ y → option_map f o ≡ (if b then Some (f y) else None)
of_shown f None x y true h e = cc
of_shown f None x y false h e = refl
of_shown f (Some z) x y true h e = ap (λ t. Some (f t)) e
of_shown f (Some z) x y false h e = cc

-- a change says what the call writes if, laid over the view, it shows the state after the call, and if it has exactly the
-- items to write
pub says_shown : (m : State) (call : Call) (v : Sight) (w : Written) (n : State) → Shows v w n
    → option_map moment w.clock ≡ (if would_write m call the_clock then Some (moment n.clock) else None)
    → option_map regulations w.catalogue ≡ (if would_write m call the_catalogue then Some (regulations (catalogue n)) else None)
    → ((key : Text) → is_some (at_name w.rows key) ≡ would_write m call (a_row key))
    → ((id : Text) → is_some (at_name w.lists id) ≡ would_write m call (a_list id))
    → Says m call n w
says_shown m call v w n s clock catalogued rows lists the_clock = clock
says_shown m call v w n s clock catalogued rows lists the_catalogue = catalogued
says_shown m call v w n s clock catalogued rows lists (a_row key) = of_shown row_or_none (at_name w.rows key) (row_in v key) (row_of n key) _ (rows key) (s.rows key)
says_shown m call v w n s clock catalogued rows lists (a_list id) =
    ap (λ (es : List (Text × Stand)). option_or (option_map (λ (e : Stand). list_or_none (option_map (λ (l : Listing). with_flight l e.0 e.1) (list_of m id))) (at_name es id)) (option_map list_or_none (at_name w.lists id))) s.stands
    ∙ of_shown list_or_none (at_name w.lists id) (list_in v id) (list_of n id) _ (lists id) (s.lists id)

pub row_put : (s : State) (key : Text) (new : Row) (q : Text) → row_of (with_row s key new) q ≡ (if same_text key q then Some new else row_of s q)
row_put s key new q = at-put_by q key new s.rows
