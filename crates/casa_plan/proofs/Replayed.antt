-- how a board stands after a history, by the replay of how it stands
use Rattle.std.proofs.Common.{◌≡◌, ℕ, ◌+◌, List, [], ◌∷◌, take, Bool, true, false, refl, sym, ap, ◌∙◌, cond}
use Rattle.casa_flight.specs.declared.call.Call.{Call}
use Rattle.casa_flight.specs.declared.reply.Reply.{Reply}
use Rattle.casa_flight.specs.declared.state.State.{State}
use Rattle.casa_flight.specs.State.{empty}
use Rattle.casa_flight.specs.Good.{IsGood}
use Rattle.casa_flight.specs.Replies.{reply}
use Rattle.casa_flight.specs.Steps.{next}
use Rattle.casa_laws.proofs.Good.{empty_good}
use Rattle.casa_laws.proofs.GoodRegs.{next-good}
use Rattle.casa_history.specs.declared.entry.Entry.{Entry}
use Rattle.casa_commit.specs.Legal.{replay, replay_from, IsLegal}
use Rattle.casa_footprint.specs.Items.{ItemName, the_clock, the_catalogue, a_row, a_list, contents}
use Rattle.casa_footprint.specs.Footprint.{writes}
use Rattle.casa_footprint.specs.Stamps.{state_after, last_write, is_absent_row, stamp}
use Rattle.casa_footprint.proofs.EachCall.{spares}
use Rattle.casa_view.specs.Change.{is_absence}
use Rattle.casa_view.specs.BoardState.{BoardState, IsGoodBoard, opening, after, reply as replied}
use Rattle.casa_plan.specs.Rooms.{IsSequential, IsBoardAfter}

abbrev Entries : Type 0
Entries = List (Entry Call Reply)

abbrev next_of : ℕ → State → Call → State
next_of n m call = next m call

state_from : (n : ℕ) (s : BoardState) (es : Entries) → (replay_from after n s es).state ≡ replay_from next_of n s.state es
state_from n s [] = refl
state_from n s (e ∷ es) = state_from (n + 1) (after n s e.call) es

pub state_replayed : (es : Entries) → (replay after opening es).state ≡ state_after es
state_replayed es = state_from 1 opening es

-- an absence said of an item is that of a row
absence : (m : State) (i : ItemName) → is_absence (contents m i) ≡ is_absent_row m i
absence m the_clock = refl
absence m the_catalogue = refl
absence m (a_row key) = refl
absence m (a_list id) = refl

-- a stamp is that of the last write, or 0 of an absent row
abbrev stamped : Bool → ℕ → ℕ
stamped absent last = cond absent 0 last

none_stamped : (b : Bool) → 0 ≡ stamped b 0
none_stamped true = refl
none_stamped false = refl

-- the stamp of an item after one more call
stamped_next : (m : State) (call : Call) (n last : ℕ) (i : ItemName) → IsGood m
    → stamped (is_absent_row (next m call) i) (cond (writes m call i) n (stamped (is_absent_row m i) last))
    ≡ stamped (is_absent_row (next m call) i) (cond (writes m call i) n last)
stamped_next m call n last i good = by (writes m call i) (is_absent_row m i) refl refl
  where
    stays : writes m call i ≡ false → is_absent_row (next m call) i ≡ is_absent_row m i
    stays w = sym (absence (next m call) i) ∙ ap is_absence (spares call m good i w) ∙ absence m i

    by : (w a : Bool) → writes m call i ≡ w → is_absent_row m i ≡ a
        → stamped (is_absent_row (next m call) i) (cond w n (stamped a last)) ≡ stamped (is_absent_row (next m call) i) (cond w n last)
    by true a e f = refl
    by false false e f = refl
    by false true e f =
        ap (λ (b : Bool). stamped b (stamped true last)) (stays e ∙ f) ∙ sym (ap (λ (b : Bool). stamped b last) (stays e ∙ f))

stamp_from : (i : ItemName) (count last : ℕ) (s : BoardState) (es : Entries) → IsGood s.state
    → s.stamp i ≡ stamped (is_absent_row s.state i) last
    → (replay_from after (count + 1) s es).stamp i
    ≡ stamped (is_absent_row (replay_from next_of (count + 1) s.state es) i) (last_write s.state count last i es)
stamp_from i count last s [] good h = h
stamp_from i count last s (e ∷ es) good h =
    stamp_from i (count + 1) (cond (writes s.state e.call i) (count + 1) last) (after (count + 1) s e.call) es
    (next-good s.state e.call good)
    (ap (λ (x : ℕ). stamped (is_absent_row (next s.state e.call) i) (cond (writes s.state e.call i) (count + 1) x)) h
    ∙ stamped_next s.state e.call (count + 1) last i good)

pub stamp_replayed : (es : Entries) (i : ItemName) → (replay after opening es).stamp i ≡ stamp es i
stamp_replayed es i = stamp_from i 0 0 opening es empty_good (none_stamped (is_absent_row empty i))

-- a history that is legal on a board is one of one thread
pub sequential : (es : Entries) → IsLegal after replied opening es → IsSequential es
sequential es legal k e found =
    legal k e found ∙ ap (λ (m : State). reply m e.call) (state_replayed (take k es))

-- a board that is the replay of a history and stands well stands as after that history
pub stands : (es : Entries) (s : BoardState) → s ≡ replay after opening es → IsGoodBoard s → IsBoardAfter es s
stands es s is well = record {
  state = ap (λ (x : BoardState). x.state) is ∙ state_replayed es;
  good = well.good;
  catalogue_is = sym well.catalogue_is;
  lists = λ id. sym (well.list_is id);
  stamps = λ i. ap (λ (x : BoardState). x.stamp i) is ∙ stamp_replayed es i;
}
