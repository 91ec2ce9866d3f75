-- what a pass has seen, and its receipts there
use Rattle.std.proofs.Common.{◌≡◌, ℕ, zero, suc, ◌+◌, ◌-◌, ◌==◌, true, false, Some, List, [], ◌∷◌, ◌++◌, length, filter, sym, ap, refl, subst, ◌∙◌, arith, append_assoc, length-append}
use Rattle.std.specs.Prelude.{slice_get}
use Rattle.std.proofs.lemmas.Bool.Decides.{nat_tests}
use Rattle.std.specs.List.{All}
use Rattle.std.proofs.lemmas.List.Elements.{All-cons, All-filter, filter-append}
use Rattle.std.proofs.lemmas.List.{append-nil}
use mathlib.Core.List.{IsPrefix}
use Rattle.casa_history.specs.declared.entry.Entry.{Entry}
use Rattle.casa_history.specs.declared.entry.Receipt.{Receipt}
use Rattle.casa_history.specs.declared.pass.Pass.{Pass}
use Rattle.casa_history.specs.Entries.{receipts, receipt, receipts_from, receipts_of, is_of_desk, desk_of, entry_at}
use Rattle.casa_commit.specs.declared.world.World.{Ghosts as WorldOf}
use Rattle.casa_commit.specs.declared.room.Room.{Room}
use Rattle.casa_commit.specs.Passes.{SamePass}
use Rattle.casa_commit.specs.Rooms.{entries_of, Accepts}
use Rattle.casa_commit.proofs.Replays.{slice_get-pushed}
use Rattle.casa_commit.specs.Legal.{IsLegal}
use Rattle.casa_engine.specs.Fronts.{IsSeenIn}

-- a beginning that is as long as the whole is the whole
whole : {X : Type 0} → (xs ys zs : List X) → xs ++ ys ≡ zs → length xs ≡ length zs → xs ≡ zs
whole [] ys [] is same = refl
whole [] ys (z ∷ zs) is same = absurd (omega arith)
whole (x ∷ xs) ys [] is same = absurd (omega arith)
whole (x ∷ xs) ys (z ∷ zs) is same =
    let rest = whole xs ys zs (cc (is)) (omega arith) in cc (is, rest)

module _ {C R : Type 0} where
  receipts_from-append : (n : ℕ) (xs ys : List (Entry C R))
      → receipts_from n (xs ++ ys) ≡ receipts_from n xs ++ receipts_from (n + length xs) ys
  receipts_from-append n [] ys = ap (λ k. receipts_from k ys) (omega arith)
  receipts_from-append n (x ∷ xs) ys =
      let number : n + 1 + length xs ≡ n + suc (length xs) = omega arith in
      ap (λ rs. receipt n x ∷ rs) (receipts_from-append (n + 1) xs ys ∙ ap (λ k. receipts_from (n + 1) xs ++ receipts_from k ys) number)

  receipts_of-append : (d : ℕ) (xs ys : List (Entry C R))
      → receipts_of d (xs ++ ys) ≡ receipts_of d xs ++ filter (is_of_desk d) (receipts_from (1 + length xs) ys)
  receipts_of-append d xs ys =
      ap (filter (is_of_desk d)) (receipts_from-append 1 xs ys)
      ∙ filter-append (is_of_desk d) (receipts_from 1 xs) (receipts_from (1 + length xs) ys)

  -- the receipts of a beginning are all, if they are as many
  pub all_told : (d : ℕ) (xs es : List (Entry C R)) (rs : List (Receipt C R)) → IsPrefix xs es → rs ≡ receipts_of d xs
      → length rs ≡ length (receipts_of d es) → rs ≡ receipts_of d es
  all_told d xs es rs begins told count =
      let more : receipts_of d xs ++ filter (is_of_desk d) (receipts_from (1 + length xs) begins.0) ≡ receipts_of d es =
      sym (receipts_of-append d xs begins.0) ∙ ap (receipts_of d) begins.1 in
      let same : length (receipts_of d xs) ≡ length (receipts_of d es) = ap length (sym told) ∙ count in
      told ∙ whole (receipts_of d xs) (filter (is_of_desk d) (receipts_from (1 + length xs) begins.0)) (receipts_of d es) more same

  -- one entry more of the desk is one receipt more
  pub told_more : (d : ℕ) (es : List (Entry C R)) (e : Entry C R) → e.desk ≡ d
      → receipts_of d (es ++ e ∷ []) ≡ receipts_of d es ++ receipt (length es + 1) e ∷ []
  told_more d es e of_desk =
      let here : (e.desk == d) ≡ true = grind (arith, nat_tests, of_desk) in
      let number : 1 + length es ≡ length es + 1 = omega arith in
      let one : filter (is_of_desk d) (receipt (1 + length es) e ∷ []) ≡ receipt (1 + length es) e ∷ [] = rw here refl in
      receipts_of-append d es (e ∷ []) ∙ ap (λ rs. receipts_of d es ++ rs) (one ∙ ap (λ k. receipt k e ∷ []) number)

  pub last_at : (es : List (Entry C R)) (e : Entry C R) → entry_at (length es + 1) (es ++ e ∷ []) ≡ Some e
  last_at es e =
      let some : (length es + 1 == 0) ≡ false = grind (arith, nat_tests) in
      let place : length es + 1 - 1 ≡ length es = omega arith in
      rw (some, place) (slice_get-pushed es e)

module _ {W C V D R : Type 0} (world : WorldOf W C V D R) where
  -- what is seen behind an accepted call, where the room's entries had been kept, and a beginning of them seen
  pub accepted_seen : (room : Room W C V D R world) (pass : Pass C R) (call : C) (change : D) (given : Receipt C R)
      (room' : Room W C V D R world) (pass' : Pass C R) → Accepts room pass call change given room' pass'
      → (front kept now : List (Entry C R)) → IsPrefix front kept → kept ≡ entries_of room → now ≡ kept ++ given.entry ∷ []
      → IsSeenIn world front given now
  accepted_seen room pass call change given room' pass' is front kept now begins all pushed =
      let es : List (Entry C R) = entries_of room in
      let L : List (Entry C R) → Type 0 = IsLegal world.after world.reply world.opening in
      let place : given.position ≡ length es + 1 = ap (λ (r : Receipt C R). r.position) is.extended.receipt_is in
      let more : now ≡ es ++ given.entry ∷ [] = pushed ∙ ap (λ w. w ++ given.entry ∷ []) all in
      let entries : entries_of room' ≡ now =
      is.extended.history ∙ ap (λ (r : Receipt C R). es ++ r.entry ∷ []) (sym is.extended.receipt_is) ∙ sym more in
      record {
        legal = subst L entries is.extended.legal;
        longer = (
          begins.0 ++ given.entry ∷ [],
          sym (append_assoc front begins.0 (given.entry ∷ [])) ∙ ap (λ w. w ++ given.entry ∷ []) begins.1 ∙ sym pushed,
        );
        stands = rw (more, place) (last_at es given.entry);
        last = omega (arith, place, ap length more, length-append es (given.entry ∷ []));
      }

  -- where the pass had receipts of all that its desk has in what it had seen, it has them of all that the desk has now
  pub accepted_told : (room : Room W C V D R world) (pass : Pass C R) (call : C) (change : D) (given : Receipt C R)
      (room' : Room W C V D R world) (pass' : Pass C R) → Accepts room pass call change given room' pass'
      → (front kept now : List (Entry C R)) → IsPrefix front kept → kept ≡ entries_of room → now ≡ kept ++ given.entry ∷ []
      → receipts pass ≡ receipts_of (desk_of pass) front → receipts pass' ≡ receipts_of (desk_of pass') now
  accepted_told room pass call change given room' pass' is front kept now begins all pushed told =
      let d = desk_of pass in
      let es : List (Entry C R) = entries_of room in
      let had : receipts pass ≡ receipts_of d es =
      all_told d front es (receipts pass) (subst (IsPrefix front) all begins) told is.admitted.calls in
      let of_desk : given.entry.desk ≡ d = ap (λ (r : Receipt C R). r.entry.desk) is.extended.receipt_is in
      let place : given.position ≡ length es + 1 = ap (λ (r : Receipt C R). r.position) is.extended.receipt_is in
      let given_is : given ≡ receipt (length es + 1) given.entry = ap (λ (k : ℕ). receipt k given.entry) place in
      let more : es ++ given.entry ∷ [] ≡ now = sym (pushed ∙ ap (λ w. w ++ given.entry ∷ []) all) in
      is.pass_with.2 ∙ ap (λ rs. rs ++ given ∷ []) had ∙ ap (λ r. receipts_of d es ++ r ∷ []) given_is
      ∙ sym (told_more d es given.entry of_desk) ∙ ap (receipts_of d) more ∙ ap (λ k. receipts_of k now) (sym is.pass_with.1)

-- a refusal leaves what the pass was told
pub same_told : {C R : Type 0} → (pass pass' : Pass C R) (front : List (Entry C R)) → SamePass pass pass'
    → receipts pass ≡ receipts_of (desk_of pass) front → receipts pass' ≡ receipts_of (desk_of pass') front
same_told pass pass' front same told = same.2 ∙ told ∙ ap (λ d. receipts_of d front) (sym same.1)

-- one more is one more
pub counted_more : {X : Type 0} → (n m : ℕ) (xs ys : List X) (x : X) → n ≡ length xs → m ≡ n + 1 → ys ≡ xs ++ x ∷ [] → m ≡ length ys
counted_more n m xs ys x had more is = omega (arith, had, more, ap length is, length-append xs (x ∷ []))

-- what is found in a beginning is found in the whole, at the same place
pub found_behind : {X : Type 0} → (xs ys zs : List X) (k : ℕ) (x : X) → xs ++ ys ≡ zs → slice_get xs k ≡ Some x → slice_get zs k ≡ Some x
found_behind [] ys zs k x is found = absurd cc
found_behind (w ∷ xs) ys [] k x is found = absurd (cc (is))
found_behind (w ∷ xs) ys (z ∷ zs) zero x is found = cc (is, found)
found_behind (w ∷ xs) ys (z ∷ zs) (suc k) x is found = found_behind xs ys zs k x (cc (is)) found

found_at : {X : Type 0} → (xs : List X) (y : X) (ys : List X) → slice_get (xs ++ y ∷ ys) (length xs) ≡ Some y
found_at [] y ys = refl
found_at (x ∷ xs) y ys = found_at xs y ys

module _ {C R : Type 0} where
  entry_found : (n : ℕ) (xs es all : List (Entry C R)) (e : Entry C R) → xs ++ e ∷ es ≡ all → n ≡ length xs + 1 → entry_at n all ≡ Some e
  entry_found n xs es all e is number =
      let some : (length xs + 1 == 0) ≡ false = grind (arith, nat_tests) in
      let place : length xs + 1 - 1 ≡ length xs = omega arith in
      let here : entry_at (length xs + 1) (xs ++ e ∷ es) ≡ Some e = rw (some, place) (found_at xs e es) in
      ap (λ k. entry_at k all) number ∙ (ap (entry_at (length xs + 1)) (sym is) ∙ here)

  -- each receipt of entries has the entry at its position
  abbrev pub Stands : List (Entry C R) → Receipt C R → Type 0
  Stands all r = entry_at r.position all ≡ Some r.entry

  each_found : (n : ℕ) (xs es all : List (Entry C R)) → xs ++ es ≡ all → n ≡ length xs + 1 → All (Stands all) (receipts_from n es)
  each_found n xs [] all is number = λ k r below. absurd (omega arith)
  each_found n xs (e ∷ es) all is number =
      let more : (xs ++ e ∷ []) ++ es ≡ all = append_assoc xs (e ∷ []) es ∙ is in
      let next : n + 1 ≡ length (xs ++ e ∷ []) + 1 = omega (arith, number, length-append xs (e ∷ [])) in
      All-cons (Stands all) (receipt n e) (receipts_from (n + 1) es) (entry_found n xs es all e is number) (each_found (n + 1) (xs ++ e ∷ []) es all more next)

  all_stand : (d : ℕ) (es : List (Entry C R)) → All (Stands es) (receipts_of d es)
  all_stand d es = All-filter (is_of_desk d) (Stands es) (receipts_from 1 es) (each_found 1 [] es es refl refl)

  found_entry : (n : ℕ) (front history : List (Entry C R)) (e : Entry C R) → IsPrefix front history → entry_at n front ≡ Some e → entry_at n history ≡ Some e
  found_entry zero front history e begins found = absurd (cc (found))
  found_entry (suc n) front history e begins found =
      let some : (suc n == 0) ≡ false = grind (arith, nat_tests) in
      let place : suc n - 1 ≡ n = omega arith in
      let at : (es : List (Entry C R)) → entry_at (suc n) es ≡ slice_get es n = λ es. rw (some, place) refl in
      at history ∙ found_behind front begins.0 history n e begins.1 (sym (at front) ∙ found)

  -- the receipts of a beginning stand in the whole
  pub stand_behind : (d : ℕ) (rs : List (Receipt C R)) (front history : List (Entry C R)) → rs ≡ receipts_of d front
      → IsPrefix front history → All (Stands history) rs
  stand_behind d rs front history told begins =
      let all : All (Stands front) rs = subst (All (Stands front)) (sym told) (all_stand d front) in
      λ k r within. found_entry _ front history _ begins (all k r within)

pub begins_itself : {X : Type 0} → (xs : List X) → IsPrefix xs xs
begins_itself xs = ([], append-nil xs)

pub begins_more : {X : Type 0} → (xs ys zs : List X) → IsPrefix xs ys → IsPrefix ys zs → IsPrefix xs zs
begins_more xs ys zs p q = subst (IsPrefix xs) q.1 (p.0 ++ q.0, sym (append_assoc xs p.0 q.0) ∙ ap (λ w. w ++ q.0) p.1)

pub all_begin_more : {X : Type 0} → (fronts : List (List X)) (xs ys : List X) → All (λ (f : List X). IsPrefix f xs) fronts → IsPrefix xs ys
    → All (λ (f : List X). IsPrefix f ys) fronts
all_begin_more fronts xs ys all p k d within = begins_more _ xs ys (all k d within) p
