-- one worker of a scene, and the others
use Rattle.std.proofs.Common.{◌≡◌, ◌≢◌, ℕ, ◌+◌, ◌==◌, true, false, if◌then◌else◌, List, [], ◌∷◌, ◌++◌, length, sym, ap, subst, ◌∙◌, refl, inl, inr, arith}
use Rattle.std.proofs.lemmas.Bool.{cases_eq}
use Rattle.std.proofs.lemmas.Bool.Decides.{nat_tests}
use Rattle.casa_history.specs.declared.entry.Entry.{Entry}
use Rattle.casa_commit.specs.Legal.{entry}
use Rattle.casa_interleavings.specs.declared.event.Outcome.{Outcome}
use Rattle.casa_interleavings.specs.declared.event.Outcome.TheVariants.{Accepted, Refused}
use Rattle.casa_interleavings.specs.Scenes.{answer, Worker, Scene, with_worker, worker_after, accepted_scene, refused_scene, Commits}
use Rattle.casa_interleavings.specs.Desks.{IsOutcomeOfCommit}

module _ {C R : Type 0} where
  -- the changed worker
  pub worker_same : (w : ℕ) (x : Worker C R) (m : Scene C R) → (with_worker w x m).workers w ≡ x
  worker_same w x m =
      let same : (w == w) ≡ true = grind (arith, nat_tests) in
      ap (λ b. if b then x else m.workers w) same

  -- the other workers
  pub worker_other : {w v : ℕ} (x : Worker C R) (m : Scene C R) → v ≢ w → (with_worker w x m).workers v ≡ m.workers v
  worker_other {w} {v} x m other =
      let apart : (v == w) ≡ false = grind (arith, nat_tests) in
      ap (λ b. if b then x else m.workers v) apart

  -- what holds of the changed worker, and of each other one, holds of each
  pub each_worker : (P : ℕ → Worker C R → Type 0) (w : ℕ) (x : Worker C R) (m : Scene C R) → P w x
      → ((v : ℕ) → v ≢ w → P v (m.workers v)) → (v : ℕ) → P v ((with_worker w x m).workers v)
  each_worker P w x m here others v =
      elim (cases_eq v w) [
        | inl is ↦
            subst (λ (k : ℕ). P k ((with_worker w x m).workers k)) (sym is)
            (subst (P w) (sym (worker_same w x m)) here)
        | inr other ↦ subst (P v) (sym (worker_other x m other)) (others v other)
      ]

module _ {C R : Type 0} (reply : List (Entry C R) → C → R)
    (IsUnmoved : List (Entry C R) → C → List (Entry C R) → Type 0) where
  came : (w : ℕ) (c : C) (before fs : List (Entry C R)) (outcome : Outcome) (m : Scene C R)
      → IsOutcomeOfCommit (IsUnmoved before c m.history) outcome m.history (entry w c (reply before c)) fs
      → (n : Scene C R) × Commits reply IsUnmoved w (answer c before) m n × (n.history ≡ fs)
      × (n.workers w ≡ worker_after outcome) × ((v : ℕ) → v ≢ w → n.workers v ≡ m.workers v)
  came w c before fs outcome m (inl stays) =
      let longer : Scene C R = record m { history = m.history ++ entry w c (reply before c) ∷ [] } in
      let x : Worker C R = worker_after (Accepted (length m.history + 1)) in (
        accepted_scene reply w c before m,
        inl (stays.0, refl),
        sym stays.2,
        worker_same w x longer ∙ sym (ap (λ (o : Outcome). worker_after o) stays.1),
        λ v other. worker_other x longer other,
      )
  came w c before fs outcome m (inr moved) =
      let x : Worker C R = worker_after Refused in (
        refused_scene w m,
        inr (moved.0, refl),
        sym moved.2,
        worker_same w x m ∙ sym (ap (λ (o : Outcome). worker_after o) moved.1),
        λ v other. worker_other x m other,
      )

  -- what is told of a commit, in the words of the room, is what happens in the scene
  pub handed : {v w : ℕ} {d c : C} {r : R} {es : List (Entry C R)} (before fs : List (Entry C R)) (outcome : Outcome)
      (m : Scene C R) → v ≡ w → d ≡ c → r ≡ reply before c → m.history ≡ es
      → IsOutcomeOfCommit (IsUnmoved before d es) outcome es (entry v d r) fs
      → (n : Scene C R) × Commits reply IsUnmoved w (answer c before) m n × (n.history ≡ fs)
      × (n.workers w ≡ worker_after outcome) × ((v : ℕ) → v ≢ w → n.workers v ≡ m.workers v)
  handed {w = w} {c = c} before fs outcome m sits call says history told =
      came w c before fs outcome m
      (subst (λ (X : Type 0). X)
      (λ i. IsOutcomeOfCommit (IsUnmoved before (call i) (sym history i)) outcome (sym history i)
      (entry (sits i) (call i) (says i)) fs)
      told)
