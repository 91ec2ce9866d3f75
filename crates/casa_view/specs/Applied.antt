-- for proofs: a board after what a call writes was applied
use Rattle.std.proofs.Common.{◌≡◌, ℕ, List, [], ◌∷◌, Bool, true, false, not, cond, is_some, refl, sym, ap, ◌∙◌, Option}
use Rattle.std.proofs.Common.{None, Some, map}
use Rattle.std.specs.Option.{option_map, option_map_or, option_and_then}
use Rattle.std.specs.List.{AllByRecursion}
use Rattle.casa_flight.specs.declared.call.Call.{Call}
use Rattle.casa_filing.specs.declared.regulation.Regulation.{Regulation}
use Rattle.casa_filing.specs.declared.regulation.Measure.{Measure}
use Rattle.casa_grid.specs.declared.period.Period.{Period}
use Rattle.casa_flight.specs.declared.row.Row.{Row}
use Rattle.casa_flight.specs.declared.state.State.{State}
use Rattle.casa_filing.specs.Text.{Text, at_name}
use Rattle.casa_filing.specs.Subject.{regulation}
use Rattle.casa_flight.specs.State as state
use Rattle.casa_flight.specs.Listing as lists
use Rattle.casa_flight.specs.Listing.{Listing, listing, filter_map_values}
use Rattle.casa_flight.specs.Steps.{next}
use Rattle.casa_flight.specs.Good.{IsGood, AreInOrder}
use Rattle.casa_filing.proofs.Entries.{each_found}
use Rattle.casa_laws.proofs.Kept.{at-kept, same_entries, sorted-kept}
use Rattle.casa_laws.proofs.GoodRegs.{next-good}
use Rattle.casa_footprint.specs.Items.{ItemName, the_clock, the_catalogue, a_row, a_list, Content, moment, regulations}
use Rattle.casa_footprint.specs.Items.{row_or_none, list_or_none, contents}
use Rattle.casa_footprint.specs.Footprint.{writes}
use Rattle.casa_footprint.specs.Stamps.{is_absent_row}
use Rattle.casa_footprint.proofs.EachCall.{spares}
use Rattle.casa_item.specs.declared.item.Item.{Item}
use Rattle.casa_item.specs.Versions.{Versions, moment_of, regulations_of, row_of, list_of, content_as, measures}
use Rattle.casa_item.specs.Versions.{content_at, stamp_at, list_at, shown_state}
use Rattle.casa_view.specs.BoardState.{BoardState, IsGoodBoard, board_state, stamp_after, after}
use Rattle.casa_footprint.specs.Change.{IsChange}
use Rattle.casa_view.specs.Change.{is_absence, IsApplied}

-- what equal contents say
moments : (a b : ℕ) → moment a ≡ moment b → a ≡ b
moments a b e = cc

catalogues : (a b : List Regulation) → regulations a ≡ regulations b → a ≡ b
catalogues a b e = cc

rows_said : (a b : Option Row) → row_or_none a ≡ row_or_none b → a ≡ b
rows_said a b e = cc

lists_said : (a b : Option Listing) → list_or_none a ≡ list_or_none b → a ≡ b
lists_said a b e = cc

-- an absence said of an item is that of a row
absence : (m : State) (i : ItemName) → is_absence (contents m i) ≡ is_absent_row m i
absence m the_clock = refl
absence m the_catalogue = refl
absence m (a_row key) = refl
absence m (a_list id) = refl

-- the regulations of a state are its catalogue with the profiles of its lists
abbrev profile_in : Option Listing → List Period
profile_in l = option_map_or (λ (l : Listing). l.profile) l []

profile_of : (rows : List (Text × Row)) (id : Text) (y : Measure) (w : Option Measure) → w ≡ Some y
    → profile_in (option_map (listing rows id) w) ≡ y.profile
profile_of rows id y w e = ap (λ (v : Option Measure). profile_in (option_map (listing rows id) v)) e

measures_each : (m : State) (es : List (Text × Measure))
    → AllByRecursion (λ (e : Text × Measure). at_name m.regs e.0 ≡ Some e.1) es
    → measures (map (λ (e : Text × Measure). regulation e.0 e.1) es) (lists.list_of m) ≡ es
measures_each m [] h = refl
measures_each m (e ∷ es) h =
    let first = profile_of m.rows e.0 e.1 (at_name m.regs e.0) h.0 in
    let rest = measures_each m es h.1 in
    λ i. (e.0, record { loc = e.1.loc; profile = first i }) ∷ rest i

measures_are : (m : State) → AreInOrder m.regs → measures (state.catalogue m) (lists.list_of m) ≡ m.regs
measures_are m h = measures_each m m.regs (each_found m.regs h)

-- a row that is absent has no stamp
stays_unstamped : (x : ℕ) (b : Bool) → (b ≡ true → x ≡ 0) → x ≡ cond b 0 x
stays_unstamped x true h = h refl
stays_unstamped x false h = refl

row_absent : (w : Option Row) → not (is_some w) ≡ true → w ≡ None
row_absent None h = refl
row_absent (Some row) h = cc

-- an absent row that was not written was absent
was_unstamped : (s : BoardState) (m : State) → IsGoodBoard s → (i : ItemName) → contents m i ≡ contents s.state i
    → is_absent_row m i ≡ true → s.stamp i ≡ 0
was_unstamped s m well the_clock e h = cc
was_unstamped s m well the_catalogue e h = cc
was_unstamped s m well (a_row key) e h =
    well.unstamped key
    (sym (rows_said (state.row_of m key) (state.row_of s.state key) e) ∙ row_absent (state.row_of m key) h)
was_unstamped s m well (a_list id) e h = cc

module _ {V : Type 0} (item_of : V → Item) where
  row_by : (w : Option V)
      → option_and_then (λ (v : V). row_of (item_of v)) w ≡ option_and_then row_of (option_map item_of w)
  row_by None = refl
  row_by (Some v) = refl

  list_by : (w : Option V)
      → option_and_then (λ (v : V). list_of (item_of v)) w ≡ option_and_then list_of (option_map item_of w)
  list_by None = refl
  list_by (Some v) = refl

  -- the row of the state under a key is the one of the version there
  row_shown : (vs : Versions V) (key : Text) → AreInOrder vs.rows
      → state.row_of (shown_state item_of vs) key ≡ option_and_then row_of (option_map item_of (at_name vs.rows key))
  row_shown vs key h = at-kept (λ (v : V). row_of (item_of v)) key vs.rows h ∙ row_by (at_name vs.rows key)

  -- versions whose contents are those of a good state show that state
  shows_state : (vs : Versions V) (m : State) → AreInOrder vs.rows → IsGood m
      → ((i : ItemName) → content_at item_of vs i ≡ contents m i) → shown_state item_of vs ≡ m
  shows_state vs m h good c =
      let clock = moments (moment_of (item_of vs.clock)) m.clock (c the_clock) in
      let all = catalogues (regulations_of (item_of vs.catalogue)) (state.catalogue m) (c the_catalogue) in
      let list : (id : Text) → list_at item_of vs id ≡ lists.list_of m id =
      λ id. list_by (at_name vs.lists id) ∙ lists_said _ _ (c (a_list id)) in
      let regs : measures (regulations_of (item_of vs.catalogue)) (list_at item_of vs) ≡ m.regs =
      (λ i. measures (all i) (λ id. list id i)) ∙ measures_are m good.regs_in_order in
      let kept_rows : List (Text × Row) = filter_map_values (λ (v : V). row_of (item_of v)) vs.rows in
      let row : (key : Text) → at_name kept_rows key ≡ at_name m.rows key =
      λ key. row_shown vs key h ∙ rows_said _ _ (c (a_row key)) in
      let rows : kept_rows ≡ m.rows =
      same_entries _ m.rows (sorted-kept (λ (v : V). row_of (item_of v)) vs.rows h) good.rows_in_order row in
      λ i. record { clock = clock i; regs = regs i; rows = rows i }

module _ {V : Type 0} (item_of : V → Item) (stamp_of : V → ℕ) where
  -- a board that stands well contains the items of its state
  pub contains : (vs : Versions V) → AreInOrder vs.rows → IsGoodBoard (board_state item_of stamp_of vs) → (i : ItemName)
      → content_at item_of vs i ≡ contents (shown_state item_of vs) i
  contains vs h well the_clock = refl
  contains vs h well the_catalogue = ap regulations (sym well.catalogue_is)
  contains vs h well (a_row key) = ap row_or_none (sym (row_shown item_of vs key h))
  contains vs h well (a_list id) = ap list_or_none (sym (list_by item_of (at_name vs.lists id)) ∙ sym (well.list_is id))

  -- a change that says what a call writes, applied to a board that stands well
  module _ (vs vs' : Versions V) (n : ℕ) (call : Call) (says : ItemName → Option Content)
      (well : IsGoodBoard (board_state item_of stamp_of vs))
      (is : IsChange (shown_state item_of vs) call says) (done : IsApplied item_of stamp_of says n vs vs') where
    abbrev before : State
    before = shown_state item_of vs

    abbrev now : State
    now = next before call

    said : (i : ItemName) (b : Bool) → writes before call i ≡ b → says i ≡ cond b (Some (contents now i)) None
    said i b w = is i ∙ ap (λ (b : Bool). cond b (Some (contents now i)) None) w

    -- what is there after the change
    contents_after : (i : ItemName) (b : Bool) → writes before call i ≡ b → content_at item_of vs' i ≡ contents now i
    contents_after i true w = done.written i (contents now i) (said i true w)
    contents_after i false w =
        ap (λ (v : Option V). content_as i (option_map item_of v)) (done.others i (said i false w))
        ∙ contains vs done.were_in_order.rows well i ∙ sym (spares call before well.good i w)

    stamps_after : (i : ItemName) (b : Bool) → writes before call i ≡ b
        → stamp_at stamp_of vs' i ≡ cond (is_absent_row now i) 0 (cond b n (stamp_at stamp_of vs i))
    stamps_after i true w =
        done.stamped i (contents now i) (said i true w) ∙ ap (λ (b : Bool). cond b 0 n) (absence now i)
    stamps_after i false w =
        ap (λ (v : Option V). option_map_or stamp_of v 0) (done.others i (said i false w))
        ∙ stays_unstamped (stamp_at stamp_of vs i) (is_absent_row now i)
        (was_unstamped (board_state item_of stamp_of vs) now well i (spares call before well.good i w))

    pub applied : board_state item_of stamp_of vs' ≡ after n (board_state item_of stamp_of vs) call
    applied =
        let all : (i : ItemName) → content_at item_of vs' i ≡ contents now i =
        λ i. contents_after i (writes before call i) refl in
        let whole = shows_state item_of vs' now done.in_order.rows (next-good before call well.good) all in
        let catalogue = catalogues (regulations_of (item_of vs'.catalogue)) (state.catalogue now) (all the_catalogue) in
        let list : (id : Text) → list_at item_of vs' id ≡ lists.list_of now id =
        λ id. list_by item_of (at_name vs'.lists id) ∙ lists_said _ _ (all (a_list id)) in
        let stamp : (i : ItemName) → stamp_at stamp_of vs' i ≡ stamp_after n before call (stamp_at stamp_of vs) i =
        λ i. stamps_after i (writes before call i) refl in
        λ j. record { state = whole j; catalogue = catalogue j; list = λ id. list id j; stamp = λ i. stamp i j }
