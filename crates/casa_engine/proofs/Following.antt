-- the receipts of a desk's entries in a legal history follow one another
use Rattle.std.proofs.Common.{◌≡◌, ℕ, zero, suc, ◌+◌, ◌<◌, ◌==◌, Bool, true, false, Some, List, [], ◌∷◌, ◌++◌, length, filter, take, sym, ap, refl, ◌∙◌, arith, append_assoc}
use Rattle.std.specs.Prelude.{slice_get}
use Rattle.std.proofs.lemmas.Bool.Decides.{nat_tests}
use Rattle.std.proofs.lemmas.List.{take-append-le}
use Rattle.std.proofs.lemmas.Option.{slice_get_within}
use mathlib.Core.List.{IsPrefix}
use Rattle.casa_history.specs.declared.entry.Entry.{Entry}
use Rattle.casa_history.specs.declared.entry.Receipt.{Receipt}
use Rattle.casa_history.specs.Entries.{receipt, receipts_from, receipts_of, is_of_desk, last_position}
use Rattle.casa_commit.specs.declared.world.World.{Ghosts as WorldOf}
use Rattle.casa_commit.specs.Legal.{IsLegal, replay}
use Rattle.casa_engine.specs.Receipts.{AreReceiptsOf}
use Rattle.casa_engine.proofs.Seeing.{found_behind}

module _ {C R : Type 0} where
  -- where receipt number k of a desk's entries stands, of which the first has the position n
  record At (d n : ℕ) (es : List (Entry C R)) (k : ℕ) (r : Receipt C R) : Type 0 where
    pub before : List (Entry C R)
    pub behind : List (Entry C R)
    pub whole : before ++ r.entry ∷ behind ≡ es
    pub position : r.position ≡ n + length before
    pub of_desk : r.entry.desk ≡ d
    pub earlier : take k (filter (is_of_desk d) (receipts_from n es)) ≡ filter (is_of_desk d) (receipts_from n before)

  skips : (d n : ℕ) (e : Entry C R) (es : List (Entry C R)) → (e.desk == d) ≡ false
      → filter (is_of_desk d) (receipts_from n (e ∷ es)) ≡ filter (is_of_desk d) (receipts_from (n + 1) es)
  skips d n e es is = rw is refl

  takes : (d n : ℕ) (e : Entry C R) (es : List (Entry C R)) → (e.desk == d) ≡ true
      → filter (is_of_desk d) (receipts_from n (e ∷ es)) ≡ receipt n e ∷ filter (is_of_desk d) (receipts_from (n + 1) es)
  takes d n e es is = rw is refl

  here : (d n : ℕ) (e : Entry C R) (es : List (Entry C R)) (k : ℕ) (r : Receipt C R)
      → ((j : ℕ) → slice_get (filter (is_of_desk d) (receipts_from (n + 1) es)) j ≡ Some r → At d (n + 1) es j r)
      → (b : Bool) → (e.desk == d) ≡ b → slice_get (filter (is_of_desk d) (receipts_from n (e ∷ es))) k ≡ Some r → At d n (e ∷ es) k r
  here d n e es k r rest false is found =
      let rs = skips d n e es is in
      let at = rest k (ap (λ w. slice_get w k) (sym rs) ∙ found) in
      let skipped = skips d n e at.before is in
      record {
        before = e ∷ at.before;
        behind = at.behind;
        whole = ap (λ w. e ∷ w) at.whole;
        position = omega (arith, at.position);
        of_desk = at.of_desk;
        earlier = ap (take k) rs ∙ (at.earlier ∙ sym skipped);
      }
  here d n e es zero r rest true is found =
      let rs = takes d n e es is in
      let some : Some (receipt n e) ≡ Some r = sym (ap (λ w. slice_get w 0) rs) ∙ found in
      let same : receipt n e ≡ r = cc (some) in
      record {
        before = [];
        behind = es;
        whole = ap (λ (q : Receipt C R). q.entry ∷ es) (sym same);
        position = ap (λ (q : Receipt C R). q.position) (sym same) ∙ omega arith;
        of_desk = ap (λ (q : Receipt C R). q.entry.desk) (sym same) ∙ grind (arith, nat_tests, is);
        earlier = ap (take 0) rs;
      }
  here d n e es (suc k) r rest true is found =
      let rs = takes d n e es is in
      let at = rest k (ap (λ w. slice_get w (suc k)) (sym rs) ∙ found) in
      let kept = takes d n e at.before is in
      record {
        before = e ∷ at.before;
        behind = at.behind;
        whole = ap (λ w. e ∷ w) at.whole;
        position = omega (arith, at.position);
        of_desk = at.of_desk;
        earlier = ap (take (suc k)) rs ∙ (ap (λ w. receipt n e ∷ w) at.earlier ∙ sym kept);
      }

  stands_at : (d n : ℕ) (es : List (Entry C R)) (k : ℕ) (r : Receipt C R)
      → slice_get (filter (is_of_desk d) (receipts_from n es)) k ≡ Some r → At d n es k r
  stands_at d n [] k r found = absurd cc
  stands_at d n (e ∷ es) k r found = here d n e es k r (λ j. stands_at d (n + 1) es j r) (e.desk == d) refl found

-- a beginning of a legal history is legal
pub legal_beginning : {S C R : Type 0} → (after : ℕ → S → C → S) (reply : S → C → R) (opening : S) (xs ys : List (Entry C R))
    → IsPrefix xs ys → IsLegal after reply opening ys → IsLegal after reply opening xs
legal_beginning after reply opening xs ys begins legal k e found =
    let within : k < length xs = slice_get_within xs k e found in
    let same : take k ys ≡ take k xs = ap (take k) (sym begins.1) ∙ take-append-le k xs begins.0 (omega arith) in
    legal k e (found_behind xs begins.0 ys k e begins.1 found) ∙ ap (λ w. reply (replay after opening w) e.call) same

module _ {W C V D R : Type 0} (world : WorldOf W C V D R) where
  pub are_receipts : (d : ℕ) (front : List (Entry C R)) (rs : List (Receipt C R)) → rs ≡ receipts_of d front
      → IsLegal world.after world.reply world.opening front → AreReceiptsOf world d rs
  are_receipts d front rs told legal k r found =
      let at = stands_at d 1 front k r (ap (λ w. slice_get w k) (sym told) ∙ found) in
      let begins : IsPrefix (at.before ++ r.entry ∷ []) front = (at.behind, append_assoc at.before (r.entry ∷ []) at.behind ∙ at.whole) in
      let had : receipts_of d at.before ≡ take k rs = sym at.earlier ∙ ap (take k) (sym told) in (
        at.of_desk,
        (
          at.before,
          record {
            legal = legal_beginning world.after world.reply world.opening (at.before ++ r.entry ∷ []) front begins legal;
            position = omega (arith, at.position);
            calls = ap (λ j. length (receipts_of j at.before)) at.of_desk ∙ ap length had;
            last = ap (λ j. last_position (receipts_of j at.before)) at.of_desk ∙ ap last_position had;
          },
        ),
      )
