-- for proofs: versions of a board follow the stamps that its history gives
use Rattle.std.proofs.Common.{◌≡◌, ◌↔◌, ℕ, ◌+◌, ◌≤◌, List, ◌++◌, length, Bool, true, false, not, is_some, cond, refl, sym, ap, subst, ◌∙◌, Option, None, Some, arith, length-append}
use Rattle.std.specs.Prelude.{if◌then◌else◌, IsSome}
use Rattle.std.specs.Option.{option_map, option_map_or}
use Rattle.casa_flight.specs.declared.call.Call.{Call}
use Rattle.casa_flight.specs.declared.reply.Reply.{Reply}
use Rattle.casa_flight.specs.declared.row.Row.{Row}
use Rattle.casa_flight.specs.declared.state.State.{State}
use Rattle.casa_filing.specs.Text.{Text}
use Rattle.casa_flight.specs.State.{row_of as row_in}
use Rattle.casa_history.specs.declared.entry.Entry.{Entry}
use Rattle.casa_commit.specs.Legal.{replay}
use Rattle.casa_commit.proofs.Replays.{good_state}
use Rattle.casa_footprint.specs.Items.{ItemName, the_clock, the_catalogue, a_row, a_list, Content, row_or_none, contents, AgreeOn}
use Rattle.casa_footprint.specs.Footprint.{reads}
use Rattle.casa_footprint.specs.Stamps.{state_after, is_absent_row, stamp}
use Rattle.casa_footprint.proofs.EachCall.{reads_same}
use Rattle.casa_footprint.proofs.Written.{after_good, stamp_within, row_stamped}
use Rattle.casa_item.specs.declared.item.Item.{Item}
use Rattle.casa_view.specs.declared.view.View.{View}
use Rattle.casa_table.specs.Same.{same_version}
use Rattle.casa_item.specs.Versions.{Versions, IsOrderly, version_at, content_at, content_as, stamp_at, shown_state, row_of}
use Rattle.casa_view.specs.View.{seen, content_shown, Shows, IsViewOf, IsFor, IsCurrent}
use Rattle.casa_view.specs.Change.{is_absence, IsApplied}
use Rattle.casa_view.specs.BoardState.{BoardState, IsGoodBoard, board_state, opening, after}
use Rattle.casa_view.specs.GoodBoard.{opening_is_good, after_is_good}
use Rattle.casa_view.specs.Applied.{contains}
use Rattle.casa_plan.proofs.Replayed.{state_replayed, stamp_replayed}
use Rattle.casa_interleavings.specs.Board.{HasSameStamps}

-- a view shows what a call reads after a history, with the stamps, and has a version of a row only if that is there
pub record IsViewAfter {V : Type 0} (item_of : V → Item) (stamp_of : V → ℕ) (history : List (Entry Call Reply)) (call : Call)
    (v : View V) : Type 0 where
  pub shows : IsViewOf item_of (state_after history) call v
  pub stamped : (i : ItemName) (w : Option V) → seen v i ≡ Some w → option_map_or stamp_of w 0 ≡ stamp history i
  pub rows_are_there : (key : Text) (w : V) → seen v (a_row key) ≡ Some (Some w) → IsSome (row_of (item_of w))

-- where a stamp of a view is the present one, the version is too
abbrev pub IsTied : {V : Type 0} → (V → V → Bool) → (V → ℕ) → Versions V → View V → Type 0
IsTied {V} is_same stamp_of vs v =
    (i : ItemName) (w : Option V) → seen v i ≡ Some w → option_map_or stamp_of w 0 ≡ stamp_at stamp_of vs i →
    same_version is_same (version_at vs i) w ≡ true

abbrev Entries : Type 0
Entries = List (Entry Call Reply)

same_row : (a b : Option Row) → row_or_none a ≡ row_or_none b → a ≡ b
same_row a b e = cc

-- what a view shows of an item, it holds
held : {X Y : Type 0} → (f : X → Y) (o : Option X) (y : Y) → option_map f o ≡ Some y → (x : X) × (o ≡ Some x)
held f None y e = absurd (cc)
held f (Some x) y e = (x, refl)

-- what a view holds, the call reads
is_read : (b : Bool) (x y : Content) → Some x ≡ (if b then Some y else None) → (b ≡ true) × (x ≡ y)
is_read true x y e = (refl, cc)
is_read false x y e = absurd (cc)

module _ {V : Type 0} (item_of : V → Item) (stamp_of : V → ℕ) (is_same : V → V → Bool)
    (same_stamp : (v w : V) → is_same v w ≡ true → stamp_of v ≡ stamp_of w) where
  -- the stamp of a version; none is stamped 0
  abbrev stamp_held : Option V → ℕ
  stamp_held w = option_map_or stamp_of w 0

  -- equal versions have the same stamp
  same_stamp_held : (x y : Option V) → same_version is_same x y ≡ true → stamp_held x ≡ stamp_held y
  same_stamp_held None None e = refl
  same_stamp_held None (Some w) e = absurd (cc)
  same_stamp_held (Some v) None e = absurd (cc)
  same_stamp_held (Some v) (Some w) e = same_stamp v w e

  -- what a view shows of an item that it holds
  shown_held : (v : View V) (i : ItemName) (w : Option V) → seen v i ≡ Some w
      → content_shown item_of v i ≡ Some (content_as i (option_map item_of w))
  shown_held v i w is = ap (option_map (λ (w : Option V). content_as i (option_map item_of w))) is

  module _ (vs : Versions V) (history : Entries) (is : board_state item_of stamp_of vs ≡ replay after opening history) where
    state_is : shown_state item_of vs ≡ state_after history
    state_is = ap (λ (s : BoardState). s.state) is ∙ state_replayed history

    stamp_is : (i : ItemName) → stamp_at stamp_of vs i ≡ stamp history i
    stamp_is i = ap (λ (s : BoardState). s.stamp i) is ∙ stamp_replayed history i

    board_is_good : IsGoodBoard (board_state item_of stamp_of vs)
    board_is_good = good_state IsGoodBoard after after_is_good opening opening_is_good history (board_state item_of stamp_of vs) is

    module _ (orderly : IsOrderly item_of vs) (v : View V) (call : Call) (for_call : IsFor item_of v call)
        (current : IsCurrent is_same vs v) (shows : Shows item_of (shown_state item_of vs) v) where
      abbrev at : State
      at = for_call.0

      abbrev now : State
      now = state_after history

      agrees : AgreeOn (reads at call) at now
      agrees i read_it =
          let seen_so = for_call.2 i ∙ ap (λ b. if b then Some (contents at i) else None) read_it in
          sym (shows i (contents at i) seen_so) ∙ ap (λ (m : State). contents m i) state_is

      -- a view with the present versions is one of what the call reads after the history
      shows_now : IsViewOf item_of now call v
      shows_now i =
          for_call.2 i ∙ by (reads at call i) refl
          ∙ ap (λ b. if b then Some (contents now i) else None) (reads_same call at now for_call.1 (after_good history) agrees i)
        where
          by : (b : Bool) → reads at call i ≡ b
              → (if b then Some (contents at i) else None) ≡ (if b then Some (contents now i) else None)
          by true r = ap (λ (x : Content). Some x) (agrees i r)
          by false r = refl

      row_is_there : (key : Text) (w : V) → seen v (a_row key) ≡ Some (Some w) → IsSome (row_of (item_of w))
      row_is_there key w holds =
          by (version_at vs (a_row key)) refl
        where
          shown_so : contents (shown_state item_of vs) (a_row key) ≡ row_or_none (row_of (item_of w))
          shown_so = shows (a_row key) (row_or_none (row_of (item_of w))) (shown_held v (a_row key) (Some w) holds)

          by : (o : Option V) → version_at vs (a_row key) ≡ o → IsSome (row_of (item_of w))
          by None none =
              let same : same_version is_same None (Some w) ≡ true =
              ap (λ (o : Option V). same_version is_same o (Some w)) (sym none) ∙ current (a_row key) (Some w) holds in
              absurd (cc)
          by (Some z) there =
              let kept : content_at item_of vs (a_row key) ≡ row_or_none (row_of (item_of z)) =
              ap (λ (o : Option V). content_as (a_row key) (option_map item_of o)) there in
              let same = same_row (row_of (item_of z)) (row_of (item_of w))
              (sym kept ∙ contains item_of stamp_of vs orderly.in_order.rows board_is_good (a_row key) ∙ shown_so) in
              subst IsSome same (orderly.rows_are_there key z there)

      pub present_view : IsViewAfter item_of stamp_of history call v
      present_view = record {
        shows = shows_now;
        stamped = λ i w holds. sym (same_stamp_held (version_at vs i) w (current i w holds)) ∙ stamp_is i;
        rows_are_there = row_is_there;
      }

  -- what a call reads after a history, the view of it holds
  holds_read : (before : Entries) (call : Call) (v : View V) (viewed : IsViewAfter item_of stamp_of before call v) (i : ItemName)
      → reads (state_after before) call i ≡ true → (w : Option V) × (seen v i ≡ Some w)
  holds_read before call v viewed i read_it =
      held (λ (w : Option V). content_as i (option_map item_of w)) (seen v i) (contents (state_after before) i)
      (viewed.shows i ∙ ap (λ b. if b then Some (contents (state_after before) i) else None) read_it)

  -- and nothing else, as it is there
  reads_held : (before : Entries) (call : Call) (v : View V) (viewed : IsViewAfter item_of stamp_of before call v) (i : ItemName)
      (w : Option V) → seen v i ≡ Some w
      → (reads (state_after before) call i ≡ true) × (content_as i (option_map item_of w) ≡ contents (state_after before) i)
  reads_held before call v viewed i w holds =
      is_read (reads (state_after before) call i) (content_as i (option_map item_of w)) (contents (state_after before) i)
      (sym (shown_held v i w holds) ∙ viewed.shows i)

  -- the versions of a view are the present ones exactly where the stamps are
  pub current_unmoved : (vs : Versions V) (before later : Entries) (call : Call) (v : View V)
      → board_state item_of stamp_of vs ≡ replay after opening (before ++ later)
      → IsTied is_same stamp_of vs v → IsViewAfter item_of stamp_of before call v
      → (IsCurrent is_same vs v ↔ HasSameStamps before call (before ++ later))
  current_unmoved vs before later call v is tied viewed = (
    (λ current i read_it.
        let h = holds_read before call v viewed i read_it in
        sym (stamp_is vs (before ++ later) is i) ∙ same_stamp_held (version_at vs i) h.0 (current i h.0 h.1)
        ∙ viewed.stamped i h.0 h.1),
    (λ unmoved i w holds.
        tied i w holds
        (viewed.stamped i w holds ∙ sym (unmoved i (reads_held before call v viewed i w holds).0)
        ∙ sym (stamp_is vs (before ++ later) is i))),
  )

  -- an item that contains the absence of a row is a row
  row_absent : (vs : Versions V) (i : ItemName) → is_absence (content_at item_of vs i) ≡ true → (key : Text) × (i ≡ a_row key)
  row_absent vs the_clock e = absurd (cc)
  row_absent vs the_catalogue e = absurd (cc)
  row_absent vs (a_row key) e = (key, refl)
  row_absent vs (a_list id) e = absurd (cc)

  there_not_absent : (m : State) (key : Text) (row : Option Row) → IsSome row → row_or_none row ≡ contents m (a_row key)
      → is_absent_row m (a_row key) ≡ false
  there_not_absent m key (Some row) some same =
      ap (λ (o : Option Row). not (is_some o)) (sym (same_row (Some row) (row_in m key) same))
  there_not_absent m key None some same = absurd (cc)

  module _ (before : Entries) (call : Call) (v : View V) (viewed : IsViewAfter item_of stamp_of before call v) where
    -- the version of a row in a view has a stamp
    row_version_stamped : (key : Text) (y : V) → seen v (a_row key) ≡ Some (Some y) → 1 ≤ stamp_of y
    row_version_stamped key y holds =
        let there = there_not_absent (state_after before) key (row_of (item_of y)) (viewed.rows_are_there key y holds)
        (reads_held before call v viewed (a_row key) (Some y) holds).1 in
        let same : stamp_of y ≡ stamp before (a_row key) = viewed.stamped (a_row key) (Some y) holds in
        omega (arith, same, row_stamped before (a_row key) refl there)

    module _ (later : Entries) (vs vs' : Versions V) (n : ℕ) (says : ItemName → Option Content)
        (number_is : n ≡ length (before ++ later) + 1) (done : IsApplied item_of stamp_of says n vs vs')
        (tied : IsTied is_same stamp_of vs v) where
      -- a view stays tied as the next entry's change is applied
      pub applied_tied : IsTied is_same stamp_of vs' v
      applied_tied i w holds same = by (says i) refl
        where
          seen_stamp : stamp_held w ≡ stamp before i
          seen_stamp = viewed.stamped i w holds

          unsaid : says i ≡ None → same_version is_same (version_at vs' i) w ≡ true
          unsaid none =
              let as_before = done.others i none in
              ap (λ (o : Option V). same_version is_same o w) as_before
              ∙ tied i w holds (same ∙ ap stamp_held as_before)

          gone : (key : Text) (o : Option V) → seen v (a_row key) ≡ Some o → stamp_held o ≡ 0
              → same_version is_same None o ≡ true
          gone key None h e = refl
          gone key (Some y) h e = absurd (omega (arith, row_version_stamped key y h, e))

          absent : (x : Content) → says i ≡ Some x → is_absence x ≡ true → same_version is_same (version_at vs' i) w ≡ true
          absent x said absence =
              let none : version_at vs' i ≡ None = done.without i x said absence in
              let row = row_absent vs' i (ap is_absence (done.written i x said) ∙ absence) in
              ap (λ (o : Option V). same_version is_same o w) none
              ∙ gone row.0 w (subst (λ (k : ItemName). seen v k ≡ Some w) row.1 holds) (same ∙ ap stamp_held none)

          present : (x : Content) → says i ≡ Some x → is_absence x ≡ false → same_version is_same (version_at vs' i) w ≡ true
          present x said here =
              let new : stamp_at stamp_of vs' i ≡ n = done.stamped i x said ∙ ap (λ b. cond b 0 n) here in
              let old : stamp before i ≤ length before = stamp_within before i in
              absurd (omega (arith, seen_stamp, same, new, old, number_is, length-append before later))

          by : (o : Option Content) → says i ≡ o → same_version is_same (version_at vs' i) w ≡ true
          by None said = unsaid said
          by (Some x) said = by_kind (is_absence x) refl
            where
              by_kind : (b : Bool) → is_absence x ≡ b → same_version is_same (version_at vs' i) w ≡ true
              by_kind true kind = absent x said kind
              by_kind false kind = present x said kind
