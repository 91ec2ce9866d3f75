-- the versions of a board, once a change is turned to
use Rattle.std.proofs.Common.{◌≡◌, ℕ, List, [], ◌∷◌, Bool, true, false, cond, refl, sym, ap, ◌∙◌, subst}
use Rattle.std.proofs.Common.{Option, None, Some, unwrap_or}
use Rattle.std.specs.Prelude.{if◌then◌else◌}
use Rattle.std.specs.Option.{option_map, option_map_or, option_or}
use Rattle.std.specs.Ordering.{is_eq}
use Rattle.casa_filing.specs.declared.regulation.Regulation.{Regulation}
use Rattle.casa_flight.specs.declared.row.Row.{Row}
use Rattle.casa_filing.specs.Text.{Text, at_name}
use Rattle.casa_flight.specs.Listing.{Listing}
use Rattle.casa_flight.specs.Good.{AreInOrder}
use Rattle.casa_filing.proofs.Entries.{text_cmp}
use Rattle.casa_footprint.specs.Items.{ItemName, the_clock, the_catalogue, a_row, a_list, Content, moment, regulations}
use Rattle.casa_footprint.specs.Items.{row_or_none, list_or_none}
use Rattle.casa_item.specs.declared.item.Item.{Item}
use Rattle.casa_table.specs.Laid.{with_changes}
use Rattle.casa_item.specs.Versions.{Versions, IsInOrder, moment_of, regulations_of, content_as}
use Rattle.casa_item.specs.Versions.{version_at, list_at}
use Rattle.casa_view.specs.Change.{is_absence, IsApplied}
use Rattle.casa_plan_spec.specs.Sight.{Stand, Written, says, with_flight}
use Rattle.casa_view.specs.declared.items.Items.{Items}
use Rattle.casa_view.specs.Board.{versions, next_versions}
use Rattle.casa_view.specs.Next.{AreAlike, NextOne, NextRow, NextList, TurnsTo, OthersAreReady, listed, list_among}
use Rattle.casa_table.proofs.Layers.{at-laid, sorted-laid}

-- what two lists of entries with the same names have under a name
abbrev pub Alike : {X Y : Type 0} → (X → Y → Type 0) → Option X → Option Y → Type 0
Alike Q None None = Unit {0}
Alike Q None (Some y) = ⊥
Alike Q (Some x) None = ⊥
Alike Q (Some x) (Some y) = Q x y

pub alike_at : {X Y : Type 0} (Q : X → Y → Type 0) (q : Text) (ds : List (Text × X)) (ws : List (Text × Y))
    → AreAlike Q ds ws → Alike Q (at_name ds q) (at_name ws q)
alike_at Q q [] [] h = tt
alike_at Q q [] (w ∷ ws) h = absurd h
alike_at Q q (d ∷ ds) [] h = absurd h
alike_at {X} {Y} Q q (d ∷ ds) (w ∷ ws) h =
    elim (is_eq (text_cmp q d.0)) as
    (λ b. is_eq (text_cmp q w.0) ≡ b → Alike Q (cond b (Some d.1) (at_name ds q)) (at_name (w ∷ ws) q)) [
      | true ↦ λ p. subst (λ (b : Bool). Alike Q (Some d.1) (cond b (Some w.1) (at_name ws q))) (sym p) h.0.1
      | false ↦ λ p. subst (λ (b : Bool). Alike Q (at_name ds q) (cond b (Some w.1) (at_name ws q))) (sym p)
          (alike_at Q q ds ws h.1)
    ] (ap (λ (t : Text). is_eq (text_cmp q t)) h.0.0)

-- what a change has of a list, where the lists stand so before it
pub says_listed : (lists : Text → Option Listing) (d : Written) (q : Text)
    → says lists d (a_list q) ≡ option_map list_or_none (listed lists d q)
says_listed lists d q = by (at_name d.stands q)
  where
    by : (o : Option Stand)
        → option_or (option_map (λ (s : Stand). list_or_none (option_map (λ (l : Listing). with_flight l s.0 s.1) (lists q))) o)
        (option_map list_or_none (at_name d.lists q))
        ≡ option_map list_or_none (option_or (option_map (λ (s : Stand). option_map (λ (l : Listing). with_flight l s.0 s.1) (lists q)) o) (at_name d.lists q))
    by None = refl
    by (Some s) = refl

no_absence : {A : Type 0} → false ≡ true → A
no_absence h = cc

same_some : (x y : Content) → Some x ≡ Some y → x ≡ y
same_some x y e = ap (λ (o : Option Content). unwrap_or o x) e

module _ {V : Type 0} (item_of : V → Item) (stamp_of : V → ℕ) (n : ℕ) where
  -- what a version shows under a name, once the change is made: its content and its stamp
  abbrev Shows : ItemName → Option V → Content → Type 0
  Shows i w x =
      (content_as i (option_map item_of w) ≡ x) × (option_map_or stamp_of w 0 ≡ (if is_absence x then 0 else n))
      × (is_absence x ≡ true → w ≡ None)

  -- a row, a list, the clock and the catalogue that are written
  row_written : (q : Text) (o : Option (Option Row)) (p : Option (Option V)) (old : Option V)
      → Alike (NextRow item_of stamp_of n) o p
      → (x : Content) → option_map row_or_none o ≡ Some x → Shows (a_row q) (unwrap_or p old) x
  row_written q None None old h x e = cc
  row_written q None (Some w) old h x e = absurd h
  row_written q (Some r) None old h x e = absurd h
  row_written q (Some None) (Some None) old h x e =
      subst (Shows (a_row q) None) (same_some (row_or_none None) x e) (refl, refl, λ a. refl)
  row_written q (Some None) (Some (Some m)) old h x e = absurd h
  row_written q (Some (Some r)) (Some None) old h x e = absurd h
  row_written q (Some (Some r)) (Some (Some m)) old h x e =
      subst (Shows (a_row q) (Some m)) (same_some (row_or_none (Some r)) x e)
      (ap row_or_none h.0, h.1, λ a. no_absence a)

  list_written : (q : Text) (o : Option (Option Listing)) (was now : Option V) → TurnsTo item_of stamp_of n o was now
      → (x : Content) → option_map list_or_none o ≡ Some x → Shows (a_list q) now x
  list_written q None was now h x e = cc
  list_written q (Some l) was None h x e = absurd h
  list_written q (Some l) was (Some m) h x e =
      subst (Shows (a_list q) (Some m)) (same_some (list_or_none l) x e)
      (ap list_or_none h.0, h.1, λ a. no_absence a)

  list_stays : (o : Option (Option Listing)) (was now : Option V) → TurnsTo item_of stamp_of n o was now
      → option_map list_or_none o ≡ None → now ≡ was
  list_stays None was now h e = h
  list_stays (Some l) was now h e = cc

  clock_written : (o : Option ℕ) (w : Option V) (old : V) → NextOne item_of stamp_of n moment_of o w
      → (x : Content) → option_map moment o ≡ Some x → Shows the_clock (Some (unwrap_or w old)) x
  clock_written None w old h x e = cc
  clock_written (Some at) None old h x e = absurd h
  clock_written (Some at) (Some m) old h x e =
      subst (Shows the_clock (Some m)) (same_some (moment at) x e) (ap moment h.0, h.1, λ a. no_absence a)

  regulations_written : (o : Option (List Regulation)) (w : Option V) (old : V)
      → NextOne item_of stamp_of n regulations_of o w
      → (x : Content) → option_map regulations o ≡ Some x → Shows the_catalogue (Some (unwrap_or w old)) x
  regulations_written None w old h x e = cc
  regulations_written (Some all) None old h x e = absurd h
  regulations_written (Some all) (Some m) old h x e =
      subst (Shows the_catalogue (Some m)) (same_some (regulations all) x e)
      (ap regulations h.0, h.1, λ a. no_absence a)

  -- where the change says nothing, the version stays
  one_stays : {X : Type 0} (part : Item → X) (content : X → Content) (o : Option X) (w : Option V) (old : V)
      → NextOne item_of stamp_of n part o w → option_map content o ≡ None → unwrap_or w old ≡ old
  one_stays part content None None old h e = refl
  one_stays part content None (Some m) old h e = absurd h
  one_stays part content (Some x) w old h e = cc

  stays : {X : Type 0} (Q : X → Option V → Type 0) (content : X → Content) (o : Option X)
      (p : Option (Option V)) (old : Option V) → Alike Q o p → option_map content o ≡ None → unwrap_or p old ≡ old
  stays Q content None None old h e = refl
  stays Q content None (Some w) old h e = absurd h
  stays Q content (Some x) p old h e = cc

  -- what is laid over the lists turns them to what comes
  pub laid_lists : (o : Option (Option Listing)) (p : Option (Option V)) (was now : Option V) → now ≡ unwrap_or p was
      → Alike (NextList item_of stamp_of n) o p → TurnsTo item_of stamp_of n o was now
  laid_lists None None was now is h = is
  laid_lists None (Some w) was now is h = absurd h
  laid_lists (Some l) None was now is h = absurd h
  laid_lists (Some l) (Some None) was now is h = absurd h
  laid_lists (Some l) (Some (Some m)) was now is h =
      subst (λ (w : Option V). TurnsTo item_of stamp_of n (Some l) was w) (sym is) h

  -- the versions after a change, of which the rows are these, the lists turn to what is written, and the clock and the catalogue
  -- come if they do
  module _ (d : Written) (before now : Versions V) (clock catalogue : Option V) (rows : List (Text × Option V))
      (order : IsInOrder before) (rows_order : AreInOrder rows) (lists_order : AreInOrder now.lists)
      (clock_next : NextOne item_of stamp_of n moment_of d.clock clock)
      (catalogue_next : NextOne item_of stamp_of n regulations_of d.catalogue catalogue)
      (rows_next : AreAlike (NextRow item_of stamp_of n) d.rows rows)
      (lists_next : (q : Text) → TurnsTo item_of stamp_of n (listed (list_at item_of before) d q) (at_name before.lists q) (at_name now.lists q))
      (clock_is : now.clock ≡ unwrap_or clock before.clock)
      (catalogue_is : now.catalogue ≡ unwrap_or catalogue before.catalogue)
      (rows_are : now.rows ≡ with_changes rows before.rows) where
    row_now : (q : Text) → at_name now.rows q ≡ unwrap_or (at_name rows q) (at_name before.rows q)
    row_now q = ap (λ (es : List (Text × V)). at_name es q) rows_are ∙ at-laid q rows before.rows rows_order order.rows

    row_next : (q : Text)
        → Alike (NextRow item_of stamp_of n) (at_name d.rows q) (at_name rows q)
    row_next q = alike_at _ q d.rows rows rows_next

    abbrev there : Text → Option (Option Listing)
    there = listed (list_at item_of before) d

    shown : (i : ItemName) (x : Content) → says (list_at item_of before) d i ≡ Some x → Shows i (version_at now i) x
    shown the_clock x e =
        subst (λ (v : V). Shows the_clock (Some v) x) (sym clock_is)
        (clock_written d.clock clock before.clock clock_next x e)
    shown the_catalogue x e =
        subst (λ (v : V). Shows the_catalogue (Some v) x) (sym catalogue_is)
        (regulations_written d.catalogue catalogue before.catalogue catalogue_next x e)
    shown (a_row q) x e =
        subst (λ (w : Option V). Shows (a_row q) w x) (sym (row_now q))
        (row_written q (at_name d.rows q) (at_name rows q) (at_name before.rows q) (row_next q) x e)
    shown (a_list q) x e =
        list_written q (there q) (at_name before.lists q) (at_name now.lists q) (lists_next q) x
        (sym (says_listed (list_at item_of before) d q) ∙ e)

    same : (i : ItemName) → says (list_at item_of before) d i ≡ None → version_at now i ≡ version_at before i
    same the_clock e = ap Some (clock_is ∙ one_stays moment_of moment d.clock clock before.clock clock_next e)
    same the_catalogue e =
        ap Some (catalogue_is
        ∙ one_stays regulations_of regulations d.catalogue catalogue before.catalogue catalogue_next e)
    same (a_row q) e =
        row_now q
        ∙ stays _ row_or_none (at_name d.rows q) (at_name rows q) (at_name before.rows q)
        (row_next q) e
    same (a_list q) e =
        list_stays (there q) (at_name before.lists q) (at_name now.lists q) (lists_next q)
        (sym (says_listed (list_at item_of before) d q) ∙ e)

    pub turned : IsApplied item_of stamp_of (says (list_at item_of before) d) n before now
    turned = record {
      were_in_order = order;
      in_order = record {
        rows = subst (λ (es : List (Text × V)). AreInOrder es) (sym rows_are) (sorted-laid rows before.rows order.rows);
        lists = lists_order;
      };
      written = λ i x e. (shown i x e).0;
      stamped = λ i x e. (shown i x e).1;
      without = λ i x e. (shown i x e).2;
      others = same;
    }

  -- what is ready, and lists that turn to what is written
  pub ready_turned : (d : Written) (items : Items V) (lists : List (Text × V)) → IsInOrder (versions items) → AreInOrder lists
      → OthersAreReady item_of stamp_of n d items.next_clock items.next_catalogue items.rows.entries items.rows.next
      → ((q : Text) → TurnsTo item_of stamp_of n (listed (list_among item_of items.lists.entries) d q) (at_name items.lists.entries q) (at_name lists q))
      → IsApplied item_of stamp_of (says (list_at item_of (versions items)) d) n (versions items) (record (next_versions items) { lists = lists })
  ready_turned d items lists order lists_order ready turns =
      turned d (versions items) (record (next_versions items) { lists = lists }) items.next_clock items.next_catalogue ready.rows order ready.in_order
      lists_order ready.clock ready.catalogue ready.alike turns refl refl ready.laid
