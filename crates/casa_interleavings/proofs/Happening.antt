-- what an event does to its worker
use Rattle.std.proofs.Common.{◌≡◌, ◌≢◌, ℕ, ◌<◌, nat_lt, true, false, if◌then◌else◌, List, [], ◌∷◌, ◌++◌, sym, ap, subst, ◌∙◌, refl, arith}
use Rattle.std.proofs.lemmas.Bool.Decides.{nat_tests}
use Rattle.casa_history.specs.declared.entry.Entry.{Entry}
use Rattle.casa_interleavings.specs.declared.event.Event.{Event}
use Rattle.casa_interleavings.specs.declared.event.Event.TheVariants.{Read, Compute, Commit, Abandon}
use Rattle.casa_interleavings.specs.Scenes.{Hand, nothing, Worker, Scene, idle_worker, most_workers, with_worker, with_hand, read, compute, worker_of, Commits, Happens, Leads}
use Rattle.casa_interleavings.proofs.Workers.{worker_same, worker_other, each_worker}

module _ {C R : Type 0} where
  -- what the worker of an event holds
  abbrev hand_of : Event C → Scene C R → Hand C R
  hand_of e m = (m.workers (worker_of e)).hand

  -- the scene in which the worker of an event holds something else
  abbrev with_hand_of : Event C → Hand C R → Scene C R → Scene C R
  with_hand_of e hand m = with_worker (worker_of e) (with_hand hand (m.workers (worker_of e))) m

  -- with the same worker again, the scene is the same
  unchanged : (w : ℕ) (x : Worker C R) (m : Scene C R) → x ≡ m.workers w → m ≡ with_worker w x m
  unchanged w x m same = λ i. record { history = m.history; workers = λ v. sym (each v) i }
    where
      each : (v : ℕ) → (with_worker w x m).workers v ≡ m.workers v
      each v = each_worker (λ (k : ℕ) (y : Worker C R). y ≡ m.workers k) w x m same (λ k other. refl) v

module _ {C R : Type 0} (reply : List (Entry C R) → C → R)
    (IsUnmoved : List (Entry C R) → C → List (Entry C R) → Type 0) where
  -- an event after which its worker holds something else, and that changes nothing more
  pub turned : (Stands : Worker C R → Type 0) (e : Event C) (hand : Hand C R) (m : Scene C R) {es : List (Entry C R)}
      → m.history ≡ es → Happens reply IsUnmoved e m (with_hand_of e hand m)
      → Stands (with_hand hand (m.workers (worker_of e)))
      → (n : Scene C R) × Happens reply IsUnmoved e m n × (n.history ≡ es) × Stands (n.workers (worker_of e))
      × ((v : ℕ) → v ≢ worker_of e → n.workers v ≡ m.workers v)
  turned Stands e hand m history happens stands =
      let w = worker_of e in
      let x = with_hand hand (m.workers w) in
      (with_worker w x m, happens, history, subst Stands (sym (worker_same w x m)) stands, λ v other. worker_other x m other)

  -- such events are a read, a compute and an abandon
  pub happens_read : {e : Event C} {w : ℕ} {c : C} (m : Scene C R) → e ≡ Read w c → worker_of e < most_workers
      → Happens reply IsUnmoved e m (with_hand_of e (read c m.history (hand_of e m)) m)
  happens_read {w = w} {c = c} m is few =
      subst (λ (k : Event C). worker_of k < most_workers
      → Happens reply IsUnmoved k m (with_hand_of k (read c m.history (hand_of k m)) m))
      (sym is) at few
    where
      at : w < most_workers
          → Happens reply IsUnmoved (Read w c) m (with_hand_of (Read w c) (read c m.history (m.workers w).hand) m)
      at near =
          let small : nat_lt w most_workers ≡ true = grind (arith, nat_tests) in
          sym (ap (λ b. if b then with_worker w (with_hand (read c m.history (m.workers w).hand) (m.workers w)) m else m) small)

  pub happens_compute : {e : Event C} {w : ℕ} (m : Scene C R) → e ≡ Compute w
      → Happens reply IsUnmoved e m (with_hand_of e (compute (hand_of e m)) m)
  happens_compute m is =
      subst (λ (k : Event C). Happens reply IsUnmoved k m (with_hand_of k (compute (hand_of k m)) m)) (sym is) refl

  pub happens_abandon : {e : Event C} {w : ℕ} (m : Scene C R) → e ≡ Abandon w
      → Happens reply IsUnmoved e m (with_hand_of e nothing m)
  happens_abandon m is = subst (λ (k : Event C). Happens reply IsUnmoved k m (with_hand_of k nothing m)) (sym is) refl

  -- an event of a worker that has no desk changes nothing
  pub beyond : (e : Event C) (m : Scene C R) → ¬ (worker_of e < most_workers) → m.workers (worker_of e) ≡ idle_worker
      → Happens reply IsUnmoved e m m
  beyond (Read w c) m far idle =
      let large : nat_lt w most_workers ≡ false = grind (arith, nat_tests) in
      sym (ap (λ b. if b then with_worker w (with_hand (read c m.history (m.workers w).hand) (m.workers w)) m else m) large)
  beyond (Compute w) m far idle =
      unchanged w (with_hand (compute (m.workers w).hand) (m.workers w)) m
      (ap (λ (y : Worker C R). with_hand (compute y.hand) y) idle ∙ sym idle)
  beyond (Commit w) m far idle = subst (λ (y : Worker C R). Commits reply IsUnmoved w y.hand m m) (sym idle) refl
  beyond (Abandon w) m far idle =
      unchanged w (with_hand nothing (m.workers w)) m (ap (λ (y : Worker C R). with_hand nothing y) idle ∙ sym idle)

  -- one event more
  pub leads_push : (es : List (Event C)) (e : Event C) (m k n : Scene C R) → Leads reply IsUnmoved es m k
      → Happens reply IsUnmoved e k n → Leads reply IsUnmoved (es ++ e ∷ []) m n
  leads_push [] e m k n leads happens =
      (n, subst (λ (x : Scene C R). Happens reply IsUnmoved e x n) leads happens, refl)
  leads_push (x ∷ xs) e m k n leads happens =
      (leads.0, leads.1, leads_push xs e leads.0 k n leads.2 happens)
