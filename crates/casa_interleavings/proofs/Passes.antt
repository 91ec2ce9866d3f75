-- which passes a room admits after a commit
use Rattle.std.proofs.Common.{◌≡◌, ◌≢◌, ℕ, ◌+◌, ◌<◌, List, [], ◌∷◌, ◌++◌, length, sym, ap, subst, ◌∙◌, refl, arith, length-append}
use Rattle.casa_history.specs.declared.entry.Entry.{Entry}
use Rattle.casa_history.specs.declared.entry.Receipt.{Receipt}
use Rattle.casa_history.specs.declared.pass.Pass.{Pass}
use Rattle.casa_history.specs.Entries.{receipts, receipts_of, receipt, last_position, number_of, desk_of}
use Rattle.casa_commit.specs.declared.world.World.{Ghosts as WorldOf}
use Rattle.casa_commit.specs.declared.room.Room.{Room}
use Rattle.casa_commit.specs.declared.tally.Tally.{Tally}
use Rattle.casa_commit.specs.Desks.{tally}
use Rattle.casa_commit.specs.Rooms.{Admits, Accepts, AreUnchanged, entries_of, next_entry, room_number, open_desks}
use Rattle.casa_commit.proofs.Tallies.{tally_of_same, tally_of_other, last_position_push}

-- how many receipts a pass has, and the position of the last, are the tally of its desk
abbrev IsTally : {C R : Type 0} → Pass C R → ℕ → List (Entry C R) → Type 0
IsTally p d es = (length (receipts p) ≡ (tally d es).calls) × (last_position (receipts p) ≡ (tally d es).last)

-- with its receipt of a new entry, a pass has the tally of its desk
tally_own : {C R : Type 0} → (es : List (Entry C R)) (e : Entry C R) (p q : Pass C R) {r : Receipt C R} {d : ℕ}
    → IsTally p d es → e.desk ≡ d → r ≡ receipt (length es + 1) e → receipts q ≡ receipts p ++ r ∷ []
    → IsTally q d (es ++ e ∷ [])
tally_own {C} {R} es e p q {r} {d} was same is more =
    let t : tally d (es ++ e ∷ []) ≡ (record { calls = length (receipts_of d es) + 1; last = length es + 1 }) =
    tally_of_same d es e same in
    let longer : length (receipts q) ≡ length (receipts p) + 1 =
    ap (λ (xs : List (Receipt C R)). length xs) more ∙ length-append (receipts p) (r ∷ []) in (
      longer ∙ ap (λ n. n + 1) was.0 ∙ sym (ap (λ (x : Tally). x.calls) t),
      ap (λ (xs : List (Receipt C R)). last_position xs) more ∙ last_position_push (receipts p) r
          ∙ ap (λ (x : Receipt C R). x.position) is ∙ sym (ap (λ (x : Tally). x.last) t),
    )

-- a room without an entry admits a pass without receipts that has its number and an open desk
pub fresh_admitted : {W C V D R : Type 0} {world : WorldOf W C V D R} (room : Room W C V D R world) (p : Pass C R)
    → number_of p ≡ room_number room → desk_of p < open_desks room → entries_of room ≡ [] → receipts p ≡ [] → Admits room p
fresh_admitted {W} {C} {V} {D} {R} room p number desk none empty = record {
  number = number;
  desk = desk;
  calls = ap (λ (rs : List (Receipt C R)). length rs) empty
      ∙ sym (ap (λ (es : List (Entry C R)). length (receipts_of (desk_of p) es)) none);
  last = ap (λ (rs : List (Receipt C R)). last_position rs) empty
      ∙ sym (ap (λ (es : List (Entry C R)). last_position (receipts_of (desk_of p) es)) none);
}

module _ {W C V D R : Type 0} {world : WorldOf W C V D R} {room room' : Room W C V D R world} {pass pass' : Pass C R} where
  module _ {call : C} {change : D} {given : Receipt C R} (a : Accepts room pass call change given room' pass') where
    -- the room admits the pass whose call it accepted
    pub admits_own : Admits room' pass'
    admits_own =
        let e : Entry C R = next_entry room (desk_of pass) call in
        let t : IsTally pass' (desk_of pass) (entries_of room ++ e ∷ []) =
        tally_own (entries_of room) e pass pass' (a.admitted.calls, a.admitted.last) refl
        a.extended.receipt_is a.pass_with.2 in
        let now : IsTally pass' (desk_of pass') (entries_of room') =
        subst (λ (es : List (Entry C R)). IsTally pass' (desk_of pass') es) (sym a.extended.history)
        (subst (λ (d : ℕ). IsTally pass' d (entries_of room ++ e ∷ [])) (sym a.pass_with.1) t) in
        record {
          number = a.pass_with.0 ∙ a.admitted.number ∙ sym a.extended.number;
          desk = omega (arith, a.pass_with.1, a.admitted.desk, a.extended.desks);
          calls = now.0;
          last = now.1;
        }

    -- and each pass of another desk that it admitted before
    pub admits_other : (p : Pass C R) → desk_of p ≢ desk_of pass → Admits room p → Admits room' p
    admits_other p other known =
        let e : Entry C R = next_entry room (desk_of pass) call in
        let t : tally (desk_of p) (entries_of room') ≡ tally (desk_of p) (entries_of room) =
        ap (λ (es : List (Entry C R)). tally (desk_of p) es) a.extended.history
        ∙ tally_of_other (desk_of p) (entries_of room) e (λ same. other (sym same)) in
        record {
          number = known.number ∙ sym a.extended.number;
          desk = omega (arith, known.desk, a.extended.desks);
          calls = known.calls ∙ sym (ap (λ (x : Tally). x.calls) t);
          last = known.last ∙ sym (ap (λ (x : Tally). x.last) t);
        }

  module _ (u : AreUnchanged room pass room' pass') where
    -- a room that did not change admits the passes that it admitted
    pub admits_still : (p : Pass C R) → Admits room p → Admits room' p
    admits_still p known =
        let t : tally (desk_of p) (entries_of room') ≡ tally (desk_of p) (entries_of room) =
        ap (λ (es : List (Entry C R)). tally (desk_of p) es) u.same_room.history in
        record {
          number = known.number ∙ sym u.same_room.number;
          desk = omega (arith, known.desk, u.same_room.desks);
          calls = known.calls ∙ sym (ap (λ (x : Tally). x.calls) t);
          last = known.last ∙ sym (ap (λ (x : Tally). x.last) t);
        }
