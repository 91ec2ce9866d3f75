-- which stamps change as entries are added
use Rattle.std.proofs.Common.{◌≡◌, ◌≢◌, ℕ, zero, suc, ◌+◌, ◌≤◌, List, [], ◌∷◌, ◌++◌, take, Bool, true, false, cond, refl, sym, ap, subst, ◌∙◌, Some, length, arith, rules}
use Rattle.std.specs.Prelude.{slice_get, if◌then◌else◌}
use Rattle.casa_flight.specs.declared.call.Call.{Call}
use Rattle.casa_flight.specs.declared.reply.Reply.{Reply}
use Rattle.casa_flight.specs.declared.state.State.{State}
use Rattle.casa_flight.specs.State.{empty}
use Rattle.casa_flight.specs.Steps.{next}
use Rattle.casa_flight.specs.Good.{IsGood}
use Rattle.casa_laws.proofs.Good.{empty_good}
use Rattle.casa_laws.proofs.GoodRegs.{next-good}
use Rattle.casa_history.specs.declared.entry.Entry.{Entry}
use Rattle.casa_footprint.specs.Items.{ItemName, the_clock, the_catalogue, a_row, a_list, contents}
use Rattle.casa_footprint.specs.Footprint.{writes}
use Rattle.casa_footprint.specs.Stamps.{state_after, last_write, is_absent_row, stamp}
use Rattle.casa_footprint.specs.Written.{IsWritten, IsAbsentStill}
use Rattle.casa_footprint.proofs.EachCall.{spares}
use Rattle.casa_footprint.proofs.Stamps.{run, run-append, after-run, run-good, new_last, last_write-rises, goes_on}

abbrev Entries : Type 0
Entries = List (Entry Call Reply)

-- the state after a history is good
pub after_good : (history : Entries) → IsGood (state_after history)
after_good history = subst IsGood (sym (after-run history)) (run-good empty history empty_good)

after_append : (history later : Entries) → state_after (history ++ later) ≡ run (run empty history) later
after_append history later = after-run (history ++ later) ∙ run-append empty history later

-- an item with the same contents is an absent row in both states, or in neither
absence_same : (m n : State) (i : ItemName) → contents m i ≡ contents n i → is_absent_row m i ≡ is_absent_row n i
absence_same m n the_clock same = refl
absence_same m n the_catalogue same = refl
absence_same m n (a_row key) same = search (rules, same)
absence_same m n (a_list id) same = refl

-- the number of an item that no entry writes stays, and so does what it contains
spared : (m : State) (count last : ℕ) (i : ItemName) (es : Entries) → IsGood m
    → ((k : ℕ) (e : Entry Call Reply) → slice_get es k ≡ Some e → writes (run m (take k es)) e.call i ≡ false)
    → (last_write m count last i es ≡ last) × (contents (run m es) i ≡ contents m i)
spared m count last i [] good unwritten = (refl, refl)
spared m count last i (e ∷ es) good unwritten =
    let first : writes m e.call i ≡ false = unwritten 0 e refl in
    let rest = spared (next m e.call) (count + 1) last i es (next-good m e.call good) (λ k x at. unwritten (suc k) x at) in (
      ap (λ b. last_write (next m e.call) (count + 1) (if b then count + 1 else last) i es) first ∙ rest.0,
      rest.1 ∙ spares e.call m good i first,
    )

-- the number of an item that an entry writes is one of these entries'
written_rises : (m : State) (count last : ℕ) (i : ItemName) (es : Entries) (k : ℕ) (e : Entry Call Reply) → last ≤ count
    → slice_get es k ≡ Some e → writes (run m (take k es)) e.call i ≡ true → count + 1 ≤ last_write m count last i es
written_rises m count last i [] k e below at written = absurd (cc)
written_rises m count last i (x ∷ es) zero e below at written =
    let is : writes m x.call i ≡ true = search (rules, at, written) in
    let here : cond (writes m x.call i) (count + 1) last ≡ count + 1 = ap (λ b. cond b (count + 1) last) is in
    let rises = last_write-rises (next m x.call) (count + 1) (cond (writes m x.call i) (count + 1) last) i es
    (new_last (writes m x.call i) count last below) in
    omega (arith, here, rises)
written_rises m count last i (x ∷ es) (suc k) e below at written =
    let rest = written_rises (next m x.call) (count + 1) (cond (writes m x.call i) (count + 1) last) i es k e
    (new_last (writes m x.call i) count last below) at written in
    omega (arith, rest)

-- a row that is there and was not there at first has a number
row_numbered : (m : State) (count last : ℕ) (i : ItemName) (es : Entries) → IsGood m
    → (is_absent_row m i ≡ false → 1 ≤ last) → is_absent_row (run m es) i ≡ false → 1 ≤ last_write m count last i es
row_numbered m count last i [] good first is = first is
row_numbered m count last i (e ∷ es) good first is =
    row_numbered n (count + 1) (cond (writes m e.call i) (count + 1) last) i es (next-good m e.call good)
    (by (writes m e.call i) refl) is
  where
    n : State
    n = next m e.call

    by : (b : Bool) → writes m e.call i ≡ b → is_absent_row n i ≡ false → 1 ≤ cond b (count + 1) last
    by true w there = omega arith
    by false w there = first (sym (absence_same n m i (spares e.call m good i w)) ∙ there)

-- no entry wrote the item
abbrev IsUnwritten : Entries → Entries → ItemName → Type 0
IsUnwritten history later i =
    (k : ℕ) (e : Entry Call Reply) → slice_get later k ≡ Some e → writes (run (run empty history) (take k later)) e.call i ≡ false

not_true : (b : Bool) → ¬ (b ≡ true) → b ≡ false
not_true true h = absurd (h refl)
not_true false h = refl

unwritten : (history later : Entries) (i : ItemName) → ¬ (IsWritten history later i) → IsUnwritten history later i
unwritten history later i none k e at =
    let same : state_after (history ++ take k later) ≡ run (run empty history) (take k later) = after_append history (take k later) in
    subst (λ (m : State). writes m e.call i ≡ false) same
    (not_true (writes (state_after (history ++ take k later)) e.call i) (λ is. none (k, e, at, is)))

pub unwritten_stamp : (history later : Entries) (i : ItemName) → ¬ (IsWritten history later i)
    → stamp (history ++ later) i ≡ stamp history i
unwritten_stamp history later i none =
    let m : State = run empty history in
    let on = goes_on empty 0 0 i history later (omega arith) in
    let s = spared m on.0 (last_write empty 0 0 i history) i later (run-good empty history empty_good) (unwritten history later i none) in
    let same : contents (state_after (history ++ later)) i ≡ contents (state_after history) i =
    ap (λ (x : State). contents x i) (after_append history later) ∙ s.1 ∙ ap (λ (x : State). contents x i) (sym (after-run history)) in
    ap (λ b. if b then 0 else last_write empty 0 0 i (history ++ later)) (absence_same (state_after (history ++ later)) (state_after history) i same)
    ∙ ap (λ n. if is_absent_row (state_after history) i then 0 else n) (on.2 ∙ s.0)

-- an item that can be an absent row is one in the empty state
absent_at_first : (m : State) (i : ItemName) → is_absent_row m i ≡ true → is_absent_row empty i ≡ true
absent_at_first m the_clock is = is
absent_at_first m the_catalogue is = is
absent_at_first m (a_row key) is = refl
absent_at_first m (a_list id) is = is

pub written_stamp : (history later : Entries) (i : ItemName) → IsWritten history later i → ¬ (IsAbsentStill history later i)
    → stamp (history ++ later) i ≢ stamp history i
written_stamp history later i written some same =
    by (is_absent_row (state_after history) i) (is_absent_row (state_after (history ++ later)) i) refl refl same
  where
    old : ℕ
    old = last_write empty 0 0 i history

    new : ℕ
    new = last_write empty 0 0 i (history ++ later)

    rises : old + 1 ≤ new
    rises =
        let on = goes_on empty 0 0 i history later (omega arith) in
        let is = subst (λ (m : State). writes m written.1.call i ≡ true) (after_append history (take written.0 later)) written.3 in
        let more = written_rises (run empty history) on.0 old i later written.0 written.1 on.1 written.2 is in
        omega (arith, on.1, on.2, more)

    numbered : is_absent_row empty i ≡ true → is_absent_row (state_after history) i ≡ false → 1 ≤ old
    numbered first there =
        row_numbered empty 0 0 i history empty_good (λ is. absurd (cc))
        (ap (λ (m : State). is_absent_row m i) (sym (after-run history)) ∙ there)

    by : (a b : Bool) → is_absent_row (state_after history) i ≡ a → is_absent_row (state_after (history ++ later)) i ≡ b
        → cond b 0 new ≡ cond a 0 old → ⊥
    by true true p q e = some (p, q)
    by true false p q e = omega (arith, rises, e)
    by false true p q e = omega (arith, numbered (absent_at_first (state_after (history ++ later)) i q) p, e)
    by false false p q e = omega (arith, rises, e)

pub absent_stamp : (history later : Entries) (i : ItemName) → IsAbsentStill history later i
    → stamp (history ++ later) i ≡ stamp history i
absent_stamp history later i still =
    ap (λ b. cond b 0 (last_write empty 0 0 i (history ++ later))) still.1
    ∙ sym (ap (λ b. cond b 0 (last_write empty 0 0 i history)) still.0)

-- no stamp is beyond the history's length, and no absent row has one
new_stamp : (m : State) (count last : ℕ) (i : ItemName) (es : Entries) → last ≤ count
    → last_write m count last i es ≤ count + length es
new_stamp m count last i [] below = omega (arith, below)
new_stamp m count last i (e ∷ es) below =
    let rest = new_stamp (next m e.call) (count + 1) (cond (writes m e.call i) (count + 1) last) i es
    (new_last (writes m e.call i) count last below) in
    omega (arith, rest)

pub stamp_within : (history : Entries) (i : ItemName) → stamp history i ≤ length history
stamp_within history i = by (is_absent_row (state_after history) i)
  where
    number : last_write empty 0 0 i history ≤ 0 + length history
    number = new_stamp empty 0 0 i history (omega arith)

    by : (b : Bool) → cond b 0 (last_write empty 0 0 i history) ≤ length history
    by true = omega arith
    by false = omega (arith, number)

-- a row that is there has a stamp
pub row_stamped : (history : Entries) (i : ItemName) → is_absent_row empty i ≡ true → is_absent_row (state_after history) i ≡ false
    → 1 ≤ stamp history i
row_stamped history i first there =
    let number : 1 ≤ last_write empty 0 0 i history =
    row_numbered empty 0 0 i history empty_good (λ is. absurd (cc))
    (ap (λ (m : State). is_absent_row m i) (sym (after-run history)) ∙ there) in
    let is : stamp history i ≡ last_write empty 0 0 i history = ap (λ b. cond b 0 (last_write empty 0 0 i history)) there in
    omega (arith, number, is)
