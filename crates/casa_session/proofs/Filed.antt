-- each flight of the state after some calls was filed by one of them
use Rattle.std.proofs.Common.{◌≡◌, ◌∙◌, ◌&&◌, ◌||◌, Bool, true, false, cond, refl, sym, ap, subst, List, [], ◌∷◌, Option, None, Some}
use Rattle.std.specs.Prelude.{fold, nat_lt, option_map, unwrap_or}
use Rattle.std.specs.List.{list_any}
use Rattle.std.specs.List.Sorted.{IsStrictlySortedBy}
use Rattle.std.specs.BTreeSet.{insert_key}
use Rattle.std.specs.Map.{keys_of}
use Rattle.std.specs.Option.{option_and_then, option_map_or}
use Rattle.std.specs.Ordering.{is_eq, match_ordering}
use Rattle.std.specs.declared.cmp.Ordering.TheVariants.{Less, Equal, Greater}
use Rattle.std.proofs.lemmas.Bool.{and_left, and_right, or_parts}
use Rattle.casa_filing.specs.declared.regulation.Measure.{Measure}
use Rattle.casa_filing.specs.Subject.{regulation}
use Rattle.casa_filing.specs.Text.{Text, at_name, put, same_text}
use Rattle.casa_filing.proofs.Entries.{apart, at-put, itself, named, sorted-put, text_cmp}
use Rattle.casa_flight.specs.declared.call.Call.{Call}
use Rattle.casa_flight.specs.declared.call.Call.TheVariants.{File, Amend, Cancel, Revise, Exempt, OpenReg, CloseReg, Rates, Tick, Show, List as ListOf, Swap}
use Rattle.casa_flight.specs.declared.reply.Reply.{Reply}
use Rattle.casa_flight.specs.declared.row.Row.{Row}
use Rattle.casa_flight.specs.declared.state.State.{State}
use Rattle.casa_flight.specs.Good.{AreInOrder, IsGood}
use Rattle.casa_flight.specs.Entry.{is_to_issue}
use Rattle.casa_flight.specs.Replies.{reply}
use Rattle.casa_flight.specs.State.{empty, is_governed_by, measure_of, row_of}
use Rattle.casa_flight.specs.Steps.{Step, amend, cancel, exempt, next, revise, step, swap}
use Rattle.casa_laws.proofs.Good.{empty_good}
use Rattle.casa_laws.proofs.GoodRegs.{next-good}
use Rattle.casa_laws.proofs.Kept.{same_entries}
use Rattle.casa_history.specs.declared.entry.Entry.{Entry}
use Rattle.casa_commit.specs.Legal.{entry}
use Rattle.casa_footprint.specs.Footprint.{enters, enters_at, holds, is_accepted, writes}
use Rattle.casa_footprint.specs.Items.{a_row}
use Rattle.casa_footprint.proofs.EachCall.{spares}
use Rattle.casa_footprint.proofs.Names.{row_in}
use Rattle.casa_session.specs.Filed.{filed_by, key_filed}
use Rattle.casa_session.specs.Played.{only_desk, sequential_history, state_after_calls}

-- whether a call files this flight, and whether one of these entries' calls does
abbrev pub files : Text → Call → Bool
files q call = option_map_or (λ (key : Text). same_text key q) (key_filed call) false

abbrev pub is_filed : Text → List (Entry Call Reply) → Bool
is_filed q es = list_any (λ (e : Entry Call Reply). files q e.call) es

-- no other call writes the row of a flight that is not there
module _ (m : State) (q : Text) (absent : row_of m q ≡ None) where
  -- a call that is refused where its flight is absent
  of_one : (key : Text) (by : Option Row → Step) (more : Bool) → is_accepted (by None) ≡ false
      → (is_accepted (by (row_of m key)) && (more && same_text key q)) ≡ false
  of_one key by more refuses =
      elim (same_text key q) as (λ b. same_text key q ≡ b → (is_accepted (by (row_of m key)) && (more && b)) ≡ false) [
        | true ↦ λ t. and_left _ _ (ap (λ (o : Option Row). is_accepted (by o)) (ap (row_of m) (named key q t) ∙ absent) ∙ refuses)
        | false ↦ λ t. and_right _ _ (and_right more false refl)
      ] refl

  of_two : (key other : Text) → (is_accepted (step m (Swap key other)) && (same_text key q || same_text other q)) ≡ false
  of_two key other = by (same_text key q) refl (same_text other q) refl
    where
      gone : (name : Text) → same_text name q ≡ true → row_of m name ≡ None
      gone name t = ap (row_of m) (named name q t) ∙ absent

      without_mate : (row : Option Row) → is_accepted (swap m key other row None) ≡ false
      without_mate None = refl
      without_mate (Some row) = refl

      by : (a : Bool) → same_text key q ≡ a → (b : Bool) → same_text other q ≡ b
          → (is_accepted (swap m key other (row_of m key) (row_of m other)) && (a || b)) ≡ false
      by true s b t = and_left _ _ (ap (λ (o : Option Row). is_accepted (swap m key other o (row_of m other))) (gone key s))
      by false s true t =
          and_left _ _ (ap (λ (o : Option Row). is_accepted (swap m key other (row_of m key) o)) (gone other t) ∙ without_mate (row_of m key))
      by false s false t = and_right _ _ refl

  -- a test of the flight's row
  of_row : (more : Bool) (test : Row → Bool) → (more && option_map_or test (row_of m q) false) ≡ false
  of_row more test = and_right _ _ (ap (λ (o : Option Row). option_map_or test o false) absent)

  not_written : (call : Call) → files q call ≡ false → writes m call (a_row q) ≡ false
  not_written (File plan) other = and_right _ _ other
  not_written (Amend plan) other = of_one plan.key (λ o. amend m plan o (nat_lt plan.eobt m.clock)) true refl
  not_written (Cancel key) other = of_one key (cancel m key) true refl
  not_written (Revise key) other = of_one key (revise m key) (holds m key) refl
  not_written (Exempt key) other = of_one key (exempt m key) true refl
  not_written (OpenReg id loc profile) other = of_row _ _
  not_written (CloseReg id) other = of_row _ _
  not_written (Rates id profile) other = and_right _ _ (and_right _ _ (by (measure_of m id)))
    where
      by : (w : Option Measure) → option_map_or (λ (measure : Measure). enters_at m (regulation id (record measure { profile = profile })) q) w false ≡ false
      by None = refl
      by (Some measure) = ap (λ (o : Option Row). option_map_or (enters m (regulation id (record measure { profile = profile }))) o false) absent
  not_written (Tick at) other = of_row _ _
  not_written (Show key) other = and_right _ _ refl
  not_written (ListOf id) other = and_right _ _ refl
  not_written (Swap key mate) other = of_two key mate

-- so a flight that is not there, and is filed by none of some calls, is not there after them
unfiled-from : (m : State) (q : Text) (calls : List Call) → IsGood m → row_of m q ≡ None → is_filed q (sequential_history m calls) ≡ false
    → row_of (fold next m calls) q ≡ None
unfiled-from m q [] good absent other = absent
unfiled-from m q (c ∷ calls) good absent other =
    let (here, later) = or_parts (files q c) (is_filed q (sequential_history (next m c) calls)) other in
    let stays : row_of (next m c) q ≡ row_of m q = row_in (next m c) m q (spares c m good (a_row q) (not_written m q absent c here)) in
    unfiled-from (next m c) q calls (next-good m c good) (stays ∙ absent) later

pub unfiled : (calls : List Call) (q : Text) → is_filed q (sequential_history empty calls) ≡ false → row_of (state_after_calls calls) q ≡ None
unfiled calls q other = unfiled-from empty q calls empty_good refl other

good-from : (m : State) (calls : List Call) → IsGood m → IsGood (fold next m calls)
good-from m [] good = good
good-from m (c ∷ calls) good = good-from (next m c) calls (next-good m c good)

-- what a call files is one flight
found_filed : (m : State) (o : Option Text) (key : Text) (row : Row)
    → option_and_then {U = Text × Row} (λ (k : Text). option_map {U = Text × Row} (λ (r : Row). (k, r)) (row_of m k)) o ≡ Some (key, row)
    → (row_of m key ≡ Some row) × ((q : Text) → option_map_or (λ (k : Text). same_text k q) o false ≡ same_text key q)
found_filed m None key row found = cc
found_filed m (Some k) key row found = by (row_of m k) refl found
  where
    by : (w : Option Row) → row_of m k ≡ w → option_map {U = Text × Row} (λ (r : Row). (k, r)) w ≡ Some (key, row)
        → (row_of m key ≡ Some row) × ((q : Text) → same_text k q ≡ same_text key q)
    by None is f = cc
    by (Some r) is f =
        let same_key : k ≡ key = ap (λ (p : Option (Text × Row)). option_map_or (λ (e : Text × Row). e.0) p k) f in
        let same_row : r ≡ row = ap (λ (p : Option (Text × Row)). option_map_or (λ (e : Text × Row). e.1) p r) f in
        (ap (row_of m) (sym same_key) ∙ is ∙ ap (λ (x : Row). Some x) same_row, λ q. ap (λ (x : Text). same_text x q) same_key)

none_filed : (m : State) (o : Option Text) (q : Text)
    → option_and_then {U = Text × Row} (λ (k : Text). option_map {U = Text × Row} (λ (r : Row). (k, r)) (row_of m k)) o ≡ None
    → option_map_or (λ (k : Text). same_text k q) o false ≡ true → row_of m q ≡ None
none_filed m None q none files_it = cc
none_filed m (Some k) q none files_it = subst (λ (x : Text). row_of m x ≡ None) (named k q files_it) (by (row_of m k) refl none)
  where
    by : (w : Option Row) → row_of m k ≡ w → option_map {U = Text × Row} (λ (r : Row). (k, r)) w ≡ None → row_of m k ≡ None
    by None is f = is
    by (Some r) is f = cc

-- the flights that these entries filed, as they stand in a state
pub record AreShown (m : State) (es : List (Entry Call Reply)) (shown : List (Text × Row)) : Type 0 where
  pub in_order : AreInOrder shown
  pub rows : (q : Text) → at_name shown q ≡ cond (is_filed q es) (row_of m q) None

shown-none : (m : State) → AreShown m [] []
unfolding IsStrictlySortedBy
shown-none m = record { in_order = tt; rows = λ q. refl }

-- with one entry more
module _ (m : State) (es more : List (Entry Call Reply)) (e : Entry Call Reply) (shown : List (Text × Row))
    (grown : (q : Text) → is_filed q more ≡ (is_filed q es || files q e.call)) (are : AreShown m es shown) where
  either_way : (a : Bool) (w : Option Row) → cond a w w ≡ w
  either_way true w = refl
  either_way false w = refl

  or_other : (a : Bool) → (a || false) ≡ a
  or_other true = refl
  or_other false = refl

  or_it : (a : Bool) → (a || true) ≡ true
  or_it true = refl
  or_it false = refl

  -- where it files another flight, or none
  others : (q : Text) → files q e.call ≡ false → at_name shown q ≡ cond (is_filed q more) (row_of m q) None
  others q other =
      are.rows q
      ∙ ap (λ b. cond b (row_of m q) None) (sym (grown q ∙ ap (λ b. is_filed q es || b) other ∙ or_other (is_filed q es)))

  shown-kept : filed_by m e.call ≡ None → AreShown m more shown
  shown-kept none = record { in_order = are.in_order; rows = λ q. by q (files q e.call) refl }
    where
      by : (q : Text) (b : Bool) → files q e.call ≡ b → at_name shown q ≡ cond (is_filed q more) (row_of m q) None
      by q false t = others q t
      by q true t =
          let gone : row_of m q ≡ None = none_filed m (key_filed e.call) q none t in
          are.rows q ∙ ap (λ (o : Option Row). cond (is_filed q es) o None) gone ∙ either_way (is_filed q es) None
          ∙ sym (ap (λ (o : Option Row). cond (is_filed q more) o None) gone ∙ either_way (is_filed q more) None)

  shown-put : (key : Text) (row : Row) → filed_by m e.call ≡ Some (key, row) → AreShown m more (put shown key row)
  shown-put key row found = record {
    in_order = sorted-put key row shown are.in_order;
    rows = λ q. at-put q key row shown ∙ by q (same_text key q) refl;
  }
    where
      found_it : (row_of m key ≡ Some row) × ((q : Text) → files q e.call ≡ same_text key q)
      found_it = found_filed m (key_filed e.call) key row found

      by : (q : Text) (b : Bool) → same_text key q ≡ b
          → cond (is_eq (text_cmp q key)) (Some row) (at_name shown q) ≡ cond (is_filed q more) (row_of m q) None
      by q false t = ap (λ b. cond b (Some row) (at_name shown q)) (apart key q t) ∙ others q (found_it.1 q ∙ t)
      by q true t =
          let same : key ≡ q = named key q t in
          let there : row_of m q ≡ Some row = ap (row_of m) (sym same) ∙ found_it.0 in
          let filed : is_filed q more ≡ true = grown q ∙ ap (λ b. is_filed q es || b) (found_it.1 q ∙ t) ∙ or_it (is_filed q es) in
          ap (λ b. cond b (Some row) (at_name shown q)) (subst (λ (x : Text). is_eq (text_cmp q x) ≡ true) (sym same) (itself q))
          ∙ sym (ap (λ b. cond b (row_of m q) None) filed ∙ there)

-- the flights of all entries are those of the state
shown-whole : (calls : List Call) (shown : List (Text × Row)) → AreShown (state_after_calls calls) (sequential_history empty calls) shown
    → shown ≡ (state_after_calls calls).rows
shown-whole calls shown are =
    let m : State = state_after_calls calls in
    same_entries shown m.rows are.in_order (good-from empty calls empty_good).rows_in_order
    (λ q. are.rows q ∙ by q (is_filed q (sequential_history empty calls)) refl)
  where
    by : (q : Text) (b : Bool) → is_filed q (sequential_history empty calls) ≡ b
        → cond b (row_of (state_after_calls calls) q) None ≡ row_of (state_after_calls calls) q
    by q true t = refl
    by q false t = sym (unfiled calls q t)

-- the keys of the flights that these entries filed
pub record AreKeys (m : State) (es : List (Entry Call Reply)) (keys : List Text) : Type 0 where
  pub shown : List (Text × Row)
  pub are : AreShown m es shown
  pub keys_are : keys ≡ keys_of shown

pub keys-none : (m : State) (keys : List Text) → keys ≡ [] → AreKeys m [] keys
keys-none m keys none = record { shown = []; are = shown-none m; keys_are = none }

-- a key that is put into a set is put into a map
keys-inserted : (es : List (Text × Row)) (key : Text) (row : Row) → keys_of (put es key row) ≡ insert_key text_cmp (keys_of es) key
keys-inserted [] key row = refl
keys-inserted (e ∷ es) key row =
    elim (text_cmp key e.0) as (λ o. keys_of (match_ordering o ((key, row) ∷ e ∷ es) ((e.0, row) ∷ es) (e ∷ put es key row))
    ≡ match_ordering o (key ∷ keys_of (e ∷ es)) (keys_of (e ∷ es)) (e.0 ∷ insert_key text_cmp (keys_of es) key)) [
      | Less ↦ refl
      | Equal ↦ refl
      | Greater ↦ ap (λ (ks : List Text). e.0 ∷ ks) (keys-inserted es key row)
    ]

module _ (m : State) (es more : List (Entry Call Reply)) (e : Entry Call Reply) (keys : List Text)
    (grown : (q : Text) → is_filed q more ≡ (is_filed q es || files q e.call)) (have : AreKeys m es keys) where
  -- one entry more, by the key under which its call files a flight
  pub keys-kept : option_map (λ (flight : Text × Row). flight.0) (filed_by m e.call) ≡ None → AreKeys m more keys
  keys-kept none = by (filed_by m e.call) refl none
    where
      by : (o : Option (Text × Row)) → filed_by m e.call ≡ o → option_map (λ (flight : Text × Row). flight.0) o ≡ None → AreKeys m more keys
      by None is f = record { shown = have.shown; are = shown-kept m es more e have.shown grown have.are is; keys_are = have.keys_are }
      by (Some flight) is f = cc

  pub keys-put : (key : Text) (keys' : List Text) → option_map (λ (flight : Text × Row). flight.0) (filed_by m e.call) ≡ Some key
      → keys' ≡ insert_key text_cmp keys key → AreKeys m more keys'
  keys-put key keys' found inserted = by (filed_by m e.call) refl found
    where
      by : (o : Option (Text × Row)) → filed_by m e.call ≡ o → option_map (λ (flight : Text × Row). flight.0) o ≡ Some key → AreKeys m more keys'
      by None is f = cc
      by (Some flight) is f =
          let same : flight.0 ≡ key = ap (λ (k : Option Text). unwrap_or k key) f in
          record {
            shown = put have.shown flight.0 flight.1;
            are = shown-put m es more e have.shown grown have.are flight.0 flight.1 is;
            keys_are =
                inserted ∙ ap (λ (ks : List Text). insert_key text_cmp ks key) have.keys_are
                ∙ ap (λ (k : Text). insert_key text_cmp (keys_of have.shown) k) (sym same)
                ∙ sym (keys-inserted have.shown flight.0 flight.1);
          }

-- the keys of all entries are those of the state
pub keys-whole : (calls : List Call) (keys : List Text) → AreKeys (state_after_calls calls) (sequential_history empty calls) keys
    → keys ≡ keys_of (state_after_calls calls).rows
keys-whole calls keys have = have.keys_are ∙ ap keys_of (shown-whole calls have.shown have.are)
