use Rattle.std.proofs.Common.{◌≡◌, ℕ, ◌+◌, List, [], ◌∷◌, ◌++◌, length, sym, ap, subst, ◌∙◌, arith}
use Rattle.casa_history.specs.declared.entry.Entry.{Entry}
use Rattle.casa_history.specs.declared.entry.Receipt.{Receipt}
use Rattle.casa_history.specs.declared.pass.Pass.{Pass}
use Rattle.casa_history.specs.Entries.{receipts, receipts_of, last_position, desk_of}
use Rattle.casa_commit.specs.declared.world.World.{Ghosts as WorldOf}
use Rattle.casa_commit.specs.declared.room.Room.{Room}
use Rattle.casa_commit.specs.Legal.{IsLegal}
use Rattle.casa_commit.specs.Rooms.{entries_of, next_entry, Accepts}
use Rattle.casa_engine.specs.Receipts.{IsReceiptOf}
use Rattle.casa_engine.proofs.Positions.{latest_within}

module _ {W C V D R : Type 0} (world : WorldOf W C V D R) where
  -- the receipt of an accepted call stands
  pub accepted_stands : (room : Room W C V D R world) (pass : Pass C R) (call : C) (change : D) (given : Receipt C R)
      (room' : Room W C V D R world) (pass' : Pass C R) → Accepts room pass call change given room' pass'
      → IsReceiptOf world pass call given pass'
  accepted_stands room pass call change given room' pass' is =
      let es : List (Entry C R) = entries_of room in
      let entry_is : given.entry ≡ next_entry room (desk_of pass) call = ap (λ (r : Receipt C R). r.entry) is.extended.receipt_is in
      let desk : given.entry.desk ≡ desk_of pass = ap (λ (e : Entry C R). e.desk) entry_is in
      let position : given.position ≡ length es + 1 = ap (λ (r : Receipt C R). r.position) is.extended.receipt_is in
      let calls : length (receipts_of given.entry.desk es) ≡ length (receipts pass) =
      ap (λ (d : ℕ). length (receipts_of d es)) desk ∙ sym is.admitted.calls in
      let last : last_position (receipts_of given.entry.desk es) ≡ last_position (receipts pass) =
      ap (λ (d : ℕ). last_position (receipts_of d es)) desk ∙ sym is.admitted.last in
      let L : List (Entry C R) → Type 0 = IsLegal world.after world.reply world.opening in
      let with_entry : entries_of room' ≡ es ++ given.entry ∷ [] =
      is.extended.history ∙ ap (λ (e : Entry C R). es ++ e ∷ []) (sym entry_is) in
      let legal : L (es ++ given.entry ∷ []) = subst L with_entry is.extended.legal in
      record {
        desk = desk;
        called = ap (λ (e : Entry C R). e.call) entry_is;
        later = omega (arith, latest_within given.entry.desk es, last, position);
        kept = is.pass_with;
        history = (es, record { legal = legal; position = position; calls = calls; last = last });
      }
