-- what comes of a call that is read, computed and committed with no event between
use Rattle.std.proofs.Common.{◌≡◌, ℕ, ◌+◌, ◌<◌, ◌==◌, nat_lt, Bool, true, false, if◌then◌else◌, List, [], ◌∷◌, ◌++◌, length, sym, ap, subst, ◌∙◌, refl, inl, inr, arith}
use Rattle.std.proofs.lemmas.Bool.Decides.{nat_tests}
use Rattle.casa_history.specs.declared.entry.Entry.{Entry}
use Rattle.casa_commit.specs.Legal.{entry}
use Rattle.casa_interleavings.specs.declared.event.Outcome.TheVariants.{Accepted}
use Rattle.casa_interleavings.specs.Scenes.{Hand, nothing, view, answer, Worker, Scene, most_workers, with_worker, with_hand, read, compute, worker_after, accepted_scene, turn, Commits, Leads}
use Rattle.casa_interleavings.proofs.Workers.{worker_same}

-- who is changed twice is as after the second change
with_worker_again : {C R : Type 0} → (w : ℕ) (x y : Worker C R) (m : Scene C R)
    → with_worker w x (with_worker w y m) ≡ with_worker w x m
with_worker_again {C} {R} w x y m =
    λ i. record { history = m.history; workers = λ v. each (v == w) (m.workers v) i }
  where
    each : (b : Bool) (z : Worker C R) → (if b then x else (if b then y else z)) ≡ (if b then x else z)
    each true z = refl
    each false z = refl

module _ {C R : Type 0} (reply : List (Entry C R) → C → R)
    (IsUnmoved : List (Entry C R) → C → List (Entry C R) → Type 0)
    (unmoved : (before : List (Entry C R)) (c : C) → IsUnmoved before c before) where
  -- who commits an answer on a view of the present history is accepted
  commits_now : (w : ℕ) (c : C) {hand : Hand C R} (m n : Scene C R) → hand ≡ answer c m.history
      → Commits reply IsUnmoved w hand m n → n ≡ accepted_scene reply w c m.history m
  commits_now w c m n is commits =
      elim (subst (λ (h : Hand C R). Commits reply IsUnmoved w h m n) is commits) [
        | inl accepted ↦ accepted.1
        | inr refused ↦ absurd (refused.0 (unmoved m.history c))
      ]

  -- who holds nothing, and reads, computes and commits with no event between, is accepted
  pub turn_accepted : (w : ℕ) (c : C) (m n : Scene C R) → w < most_workers → (m.workers w).hand ≡ nothing
      → Leads reply IsUnmoved (turn w c) m n → n ≡ accepted_scene reply w c m.history m
  turn_accepted w c m n few idle (seen, reads, (worked, computes, (done, commits, end))) =
      let x : Worker C R = with_hand (view c m.history) (m.workers w) in
      let y : Worker C R = with_hand (answer c m.history) (m.workers w) in
      let small : nat_lt w most_workers ≡ true = grind (arith, nat_tests) in
      let holds_view : seen ≡ with_worker w x m =
      reads ∙ ap (λ b. if b then with_worker w (with_hand (read c m.history (m.workers w).hand) (m.workers w)) m else m) small
      ∙ ap (λ h. with_worker w (with_hand (read c m.history h) (m.workers w)) m) idle in
      let worker : seen.workers w ≡ x = ap (λ (k : Scene C R). k.workers w) holds_view ∙ worker_same w x m in
      let holds_answer : worked ≡ with_worker w y m =
      computes ∙ ap (λ (z : Worker C R). with_worker w (with_hand (compute z.hand) z) seen) worker
      ∙ ap (λ (k : Scene C R). with_worker w y k) holds_view ∙ with_worker_again w y x m in
      let same : worked.history ≡ m.history = ap (λ (k : Scene C R). k.history) holds_answer in
      let hand : (worked.workers w).hand ≡ answer c worked.history =
      ap (λ (k : Scene C R). (k.workers w).hand) holds_answer ∙ ap (λ (z : Worker C R). z.hand) (worker_same w y m)
      ∙ ap (λ h. answer c h) (sym same) in
      let longer : Scene C R = record m { history = m.history ++ entry w c (reply m.history c) ∷ [] } in
      end ∙ commits_now w c worked done hand commits
      ∙ ap (λ (k : Scene C R). accepted_scene reply w c k.history k) holds_answer
      ∙ with_worker_again w (worker_after (Accepted (length m.history + 1))) y longer
