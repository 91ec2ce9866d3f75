-- equal stamps show equal items
use Rattle.std.proofs.Common.{◌≡◌, ℕ, ◌+◌, ◌≤◌, List, [], ◌∷◌, ◌++◌, Bool, true, false, not, cond, refl, sym, ap, ◌∙◌, Option, None, Some, is_some, arith}
use Rattle.casa_flight.specs.declared.call.Call.{Call}
use Rattle.casa_flight.specs.declared.reply.Reply.{Reply}
use Rattle.casa_flight.specs.declared.row.Row.{Row}
use Rattle.casa_flight.specs.declared.state.State.{State}
use Rattle.casa_filing.specs.Text.{Text}
use Rattle.casa_flight.specs.State.{empty, row_of}
use Rattle.casa_flight.specs.Listing.{list_of}
use Rattle.casa_flight.specs.Steps.{next}
use Rattle.casa_flight.specs.Good.{IsGood}
use Rattle.casa_laws.proofs.Good.{empty_good}
use Rattle.casa_laws.proofs.GoodRegs.{next-good}
use Rattle.casa_history.specs.declared.entry.Entry.{Entry}
use Rattle.casa_commit.specs.Legal.{replay_from}
use Rattle.casa_footprint.specs.Items.{ItemName, the_clock, the_catalogue, a_row, a_list, row_or_none, contents, AgreeOn}
use Rattle.casa_footprint.specs.Footprint.{writes}
use Rattle.casa_footprint.specs.Stamps.{View, state_after, last_write, is_absent_row, stamp, IsUnmoved}
use Rattle.casa_footprint.proofs.Names.{catalogue_in}
use Rattle.casa_footprint.proofs.Catalogue.{absent_same}
use Rattle.casa_footprint.proofs.EachCall.{spares}

-- the state after more entries
abbrev pub run : State → List (Entry Call Reply) → State
run m [] = m
run m (e ∷ es) = run (next m e.call) es

pub run-append : (m : State) (xs ys : List (Entry Call Reply)) → run m (xs ++ ys) ≡ run (run m xs) ys
run-append m [] ys = refl
run-append m (e ∷ xs) ys = run-append (next m e.call) xs ys

-- no call looks at the number of its entry
replay_from-run : (n : ℕ) (m : State) (es : List (Entry Call Reply)) → replay_from (λ k s call. next s call) n m es ≡ run m es
replay_from-run n m [] = refl
replay_from-run n m (e ∷ es) = replay_from-run (n + 1) (next m e.call) es

pub after-run : (history : List (Entry Call Reply)) → state_after history ≡ run empty history
after-run history = replay_from-run 1 empty history

pub run-good : (m : State) (es : List (Entry Call Reply)) → IsGood m → IsGood (run m es)
run-good m [] good = good
run-good m (e ∷ es) good = run-good (next m e.call) es (next-good m e.call good)

pub new_last : (b : Bool) (count last : ℕ) → last ≤ count → cond b (count + 1) last ≤ count + 1
new_last true count last h = omega arith
new_last false count last h = omega arith

-- numbers rise
pub last_write-rises : (m : State) (count last : ℕ) (i : ItemName) (es : List (Entry Call Reply)) → last ≤ count → last ≤ last_write m count last i es
last_write-rises m count last i [] h = omega arith
last_write-rises m count last i (e ∷ es) h =
    let rest = last_write-rises (next m e.call) (count + 1) (cond (writes m e.call i) (count + 1) last) i es (new_last (writes m e.call i) count last h) in
    by (writes m e.call i) (last_write (next m e.call) (count + 1) (cond (writes m e.call i) (count + 1) last) i es) rest
  where
    by : (b : Bool) (n : ℕ) → cond b (count + 1) last ≤ n → last ≤ n
    by true n g = omega arith
    by false n g = g

-- where the number stays, no entry wrote the item, and so it contains what it contained
stays : (m : State) (count last : ℕ) (i : ItemName) (es : List (Entry Call Reply)) → IsGood m → last ≤ count → last_write m count last i es ≡ last → contents (run m es) i ≡ contents m i
stays m count last i [] good h e = refl
stays m count last i (x ∷ es) good h e =
    by (writes m x.call i) refl (stays (next m x.call) (count + 1) last i es (next-good m x.call good) (omega arith)) e
  where
    n : State
    n = next m x.call

    by : (b : Bool) → writes m x.call i ≡ b → (last_write n (count + 1) last i es ≡ last → contents (run n es) i ≡ contents n i)
        → last_write n (count + 1) (cond b (count + 1) last) i es ≡ last → contents (run n es) i ≡ contents m i
    by true w further e =
        let rises : count + 1 ≤ last_write n (count + 1) (count + 1) i es = last_write-rises n (count + 1) (count + 1) i es (omega arith) in
        absurd (omega arith)
    by false w further e = further e ∙ spares x.call m good i w

-- the number after more entries goes on from the one before
pub goes_on : (m : State) (count last : ℕ) (i : ItemName) (xs ys : List (Entry Call Reply)) → last ≤ count
    → (n : ℕ) × (last_write m count last i xs ≤ n) × (last_write m count last i (xs ++ ys) ≡ last_write (run m xs) n (last_write m count last i xs) i ys)
goes_on m count last i [] ys h = (count, h, refl)
goes_on m count last i (e ∷ xs) ys h =
    goes_on (next m e.call) (count + 1) (cond (writes m e.call i) (count + 1) last) i xs ys (new_last (writes m e.call i) count last h)

-- an item never written contains what it contained at first
never_written : (history : List (Entry Call Reply)) (i : ItemName) → last_write empty 0 0 i history ≡ 0 → contents (state_after history) i ≡ contents empty i
never_written history i e =
    ap (λ (m : State). contents m i) (after-run history) ∙ stays empty 0 0 i history empty_good (omega arith) e

same_write : (history later : List (Entry Call Reply)) (i : ItemName) → last_write empty 0 0 i history ≡ last_write empty 0 0 i (history ++ later) → contents (state_after history) i ≡ contents (state_after (history ++ later)) i
same_write history later i e =
    let on = goes_on empty 0 0 i history later (omega arith) in
    let shown = λ (m : State). contents m i in
    let before : State = run empty history in
    ap shown (after-run history)
    ∙ sym (stays before on.0 (last_write empty 0 0 i history) i later (run-good empty history empty_good) on.1 (sym on.2 ∙ sym e))
    ∙ ap shown (sym (after-run (history ++ later) ∙ run-append empty history later))

absent : (w : Option Row) → not (is_some w) ≡ true → w ≡ None
absent None h = refl
absent (Some row) h = cc

-- a row that is absent contains what it contained at first
absent_row : (m : State) (key : Text) → is_absent_row m (a_row key) ≡ true → contents m (a_row key) ≡ contents empty (a_row key)
absent_row m key h = ap row_or_none (absent (row_of m key) h)

same_row : (history later : List (Entry Call Reply)) (key : Text) → stamp history (a_row key) ≡ stamp (history ++ later) (a_row key) → contents (state_after history) (a_row key) ≡ contents (state_after (history ++ later)) (a_row key)
same_row history later key e = by (is_absent_row (state_after history) i) (is_absent_row (state_after (history ++ later)) i) refl refl e
  where
    i : ItemName
    i = a_row key

    by : (b c : Bool) → is_absent_row (state_after history) i ≡ b → is_absent_row (state_after (history ++ later)) i ≡ c
        → cond b 0 (last_write empty 0 0 i history) ≡ cond c 0 (last_write empty 0 0 i (history ++ later)) → contents (state_after history) i ≡ contents (state_after (history ++ later)) i
    by true true p q e = absent_row (state_after history) key p ∙ sym (absent_row (state_after (history ++ later)) key q)
    by true false p q e = absent_row (state_after history) key p ∙ sym (never_written (history ++ later) i (sym e))
    by false true p q e = never_written history i e ∙ sym (absent_row (state_after (history ++ later)) key q)
    by false false p q e = same_write history later i e

pub same_item : (history later : List (Entry Call Reply)) (i : ItemName) → stamp history i ≡ stamp (history ++ later) i → contents (state_after history) i ≡ contents (state_after (history ++ later)) i
same_item history later the_clock e = same_write history later the_clock e
same_item history later the_catalogue e = same_write history later the_catalogue e
same_item history later (a_row key) e = same_row history later key e
same_item history later (a_list id) e = same_write history later (a_list id) e

pub same_view : (history later : List (Entry Call Reply)) (view : View) → IsUnmoved view history → IsUnmoved view (history ++ later) → AgreeOn view.has (state_after history) (state_after (history ++ later))
same_view history later view before after i h = same_item history later i (before i h ∙ sym (after i h))

pub same_absence : (history later : List (Entry Call Reply)) (id : Text) → stamp history the_catalogue ≡ stamp (history ++ later) the_catalogue → list_of (state_after history) id ≡ None → list_of (state_after (history ++ later)) id ≡ None
same_absence history later id e h =
    absent_same (state_after history) (state_after (history ++ later)) id (catalogue_in (state_after history) (state_after (history ++ later)) (same_item history later the_catalogue e)) h
