-- what stands in the history, and what was refused, came of commits
use Rattle.std.proofs.Common.{◌≡◌, ◌⊎◌, ℕ, ◌+◌, nat_lt, Bool, true, false, if◌then◌else◌, List, [], ◌∷◌, ◌++◌, length, take, append_assoc, append-nil, Option, Some, sym, ap, subst, ◌∙◌, refl, inl, inr}
use Rattle.std.specs.Prelude.{slice_get}
use Rattle.std.proofs.Math.Seq.{take-append_seam}
use Rattle.casa_history.specs.declared.entry.Entry.{Entry}
use Rattle.casa_commit.specs.Legal.{entry}
use Rattle.casa_commit.proofs.Replays.{slice_get-pushed}
use Rattle.casa_interleavings.specs.declared.event.Event.{Event}
use Rattle.casa_interleavings.specs.declared.event.Event.TheVariants.{Read, Compute, Commit, Abandon}
use Rattle.casa_interleavings.specs.declared.event.Outcome.{Outcome}
use Rattle.casa_interleavings.specs.declared.event.Outcome.TheVariants.{Accepted, Refused}
use Rattle.casa_interleavings.specs.Scenes.{Hand, nothing, view, answer, Worker, Scene, most_workers, opening_scene, with_worker, with_hand, read, compute, worker_after, accepted_scene, refused_scene, Commits, Happens, Leads}
use Rattle.casa_interleavings.specs.Causes.{CommitsIn, AreCommitted, AreAtTheirPositions, IsRefusedIn, AreOfRefusals}
use Rattle.casa_interleavings.proofs.Workers.{worker_same, each_worker}
use Rattle.casa_interleavings.proofs.Happening.{leads_push}
use Rattle.casa_interleavings.proofs.Lists.{at_push, at_before, take_before}

module _ {C R : Type 0} where
  -- the outcome of a worker's last commit
  abbrev outcome_in : Scene C R → ℕ → Option Outcome
  outcome_in m w = (m.workers w).outcome

  -- a scene with one entry more
  abbrev with_entry : Entry C R → Scene C R → Scene C R
  with_entry e m = record m { history = m.history ++ e ∷ [] }

  -- with a worker that was told the same, all were told the same
  keeps_outcomes : (w : ℕ) (x : Worker C R) (m : Scene C R) → x.outcome ≡ outcome_in m w
      → (v : ℕ) → outcome_in (with_worker w x m) v ≡ outcome_in m v
  keeps_outcomes w x m same v =
      each_worker (λ (k : ℕ) (y : Worker C R). y.outcome ≡ outcome_in m k) w x m same (λ k other. refl) v

  -- each worker is the one that was told this, or was told what it was told before
  told_or_kept : (w v : ℕ) (outcome : Outcome) (m : Scene C R) {n : Scene C R}
      → n ≡ with_worker w (worker_after outcome) m
      → ((v ≡ w) × (outcome_in n v ≡ Some outcome)) ⊎ (outcome_in n v ≡ outcome_in m v)
  told_or_kept w v outcome m is =
      subst (λ (x : Scene C R). ((v ≡ w) × (outcome_in x v ≡ Some outcome)) ⊎ (outcome_in x v ≡ outcome_in m v)) (sym is)
      (each_worker (λ (k : ℕ) (y : Worker C R). ((k ≡ w) × (y.outcome ≡ Some outcome)) ⊎ (y.outcome ≡ outcome_in m k))
      w (worker_after outcome) m (inl (refl, refl)) (λ k other. inr refl) v)

module _ {C R : Type 0} (reply : List (Entry C R) → C → R)
    (IsUnmoved : List (Entry C R) → C → List (Entry C R) → Type 0) where
  abbrev LeadsTo : List (Event C) → Scene C R → Type 0
  LeadsTo es m = Leads reply IsUnmoved es opening_scene m

  -- an event that neither adds an entry nor tells an outcome
  abbrev IsQuiet : Scene C R → Scene C R → Type 0
  IsQuiet m n = (n.history ≡ m.history) × ((v : ℕ) → outcome_in n v ≡ outcome_in m v)

  -- a commit of a worker that holds an answer
  abbrev IsDecided : Event C → Scene C R → Scene C R → Type 0
  IsDecided e m n =
      (w : ℕ) × (c : C) × (before : List (Entry C R)) × (e ≡ Commit w) × ((m.workers w).hand ≡ answer c before)
      × ((IsUnmoved before c m.history × (n ≡ accepted_scene reply w c before m))
      ⊎ ((¬ (IsUnmoved before c m.history)) × (n ≡ refused_scene w m)))

  quiet_same : {m n : Scene C R} → n ≡ m → IsQuiet m n
  quiet_same is = (ap (λ (x : Scene C R). x.history) is, λ v. ap (λ (x : Scene C R). outcome_in x v) is)

  quiet_worker : (w : ℕ) (x : Worker C R) (m : Scene C R) {n : Scene C R} → x.outcome ≡ outcome_in m w
      → n ≡ with_worker w x m → IsQuiet m n
  quiet_worker w x m same is =
      (ap (λ (y : Scene C R). y.history) is, λ v. ap (λ (y : Scene C R). outcome_in y v) is ∙ keeps_outcomes w x m same v)

  commit_decides : (w : ℕ) (hand : Hand C R) (m n : Scene C R) → (m.workers w).hand ≡ hand
      → Commits reply IsUnmoved w hand m n → IsQuiet m n ⊎ IsDecided (Commit w) m n
  commit_decides w nothing m n holds is = inl (quiet_same is)
  commit_decides w (view c before) m n holds is = inl (quiet_same is)
  commit_decides w (answer c before) m n holds is = inr (w, c, before, refl, holds, is)

  -- each event is quiet, or a commit that is decided
  decides : (e : Event C) (m n : Scene C R) → Happens reply IsUnmoved e m n → IsQuiet m n ⊎ IsDecided e m n
  decides (Read w c) m n is = inl (by (nat_lt w most_workers) is)
    where
      x : Worker C R
      x = with_hand (read c m.history (m.workers w).hand) (m.workers w)

      by : (b : Bool) → n ≡ (if b then with_worker w x m else m) → IsQuiet m n
      by true is = quiet_worker w x m refl is
      by false is = quiet_same is
  decides (Compute w) m n is = inl (quiet_worker w (with_hand (compute (m.workers w).hand) (m.workers w)) m refl is)
  decides (Commit w) m n is = commit_decides w (m.workers w).hand m n refl is
  decides (Abandon w) m n is = inl (quiet_worker w (with_hand nothing (m.workers w)) m refl is)

  -- what holds of the opening scene, and event by event goes on to hold, holds of each scene
  leads_all : (P : List (Event C) → Scene C R → Type 0) → P [] opening_scene
      → ((es : List (Event C)) (e : Event C) (m n : Scene C R) → LeadsTo es m → P es m → Happens reply IsUnmoved e m n
      → P (es ++ e ∷ []) n)
      → (es : List (Event C)) (n : Scene C R) → LeadsTo es n → P es n
  leads_all P first step es n leads = on [] es opening_scene n refl first leads
    where
      on : (es fs : List (Event C)) (m n : Scene C R) → LeadsTo es m → P es m → Leads reply IsUnmoved fs m n
          → P (es ++ fs) n
      on es [] m n before fine is =
          subst (λ (x : Scene C R). P (es ++ []) x) (sym is)
          (subst (λ (xs : List (Event C)). P xs m) (sym (append-nil es)) fine)
      on es (e ∷ fs) m n before fine leads =
          let k = leads.0 in
          let now = leads_push reply IsUnmoved es e opening_scene m k before leads.1 in
          subst (λ (xs : List (Event C)). P xs n) (append_assoc es (e ∷ []) fs)
          (on (es ++ e ∷ []) fs k n now (step es e m k before fine leads.1) leads.2)

  -- a commit among events is one among more
  commit_kept : {es : List (Event C)} (e : Event C) {w : ℕ} {c : C} {before : List (Entry C R)} {m : Scene C R}
      → CommitsIn reply IsUnmoved es w c before m → CommitsIn reply IsUnmoved (es ++ e ∷ []) w c before m
  commit_kept {es} e {w} {m = m} is = record {
    index = is.index;
    is_commit = at_before es (e ∷ []) is.index (Commit w) is.is_commit;
    leads = subst (λ (xs : List (Event C)). LeadsTo xs m)
        (sym (take_before es (e ∷ []) is.index (Commit w) is.is_commit)) is.leads;
    holds = is.holds;
  }

  -- the commit that comes last
  commit_last : (es : List (Event C)) {e : Event C} {w : ℕ} {c : C} {before : List (Entry C R)} {m : Scene C R}
      → LeadsTo es m → e ≡ Commit w → (m.workers w).hand ≡ answer c before
      → CommitsIn reply IsUnmoved (es ++ e ∷ []) w c before m
  commit_last es {e} {m = m} leads is holds = record {
    index = length es;
    is_commit = slice_get-pushed es e ∙ ap (λ (x : Event C). Some x) is;
    leads = subst (λ (xs : List (Event C)). LeadsTo xs m) (sym (take-append_seam es (e ∷ []))) leads;
    holds = holds;
  }

  -- a commit of a worker that was refused
  abbrev Refusal : List (Event C) → ℕ → Type 0
  Refusal es w = (c : C) × (before : List (Entry C R)) × (m : Scene C R) × IsRefusedIn reply IsUnmoved es w c before m

  abbrev OfRefusals : List (Event C) → Scene C R → Type 0
  OfRefusals es n = AreOfRefusals reply IsUnmoved es (outcome_in n)

  refusal_kept : (es : List (Event C)) (e : Event C) (w : ℕ) → Refusal es w → Refusal (es ++ e ∷ []) w
  refusal_kept es e w (c, before, m, is) =
      (c, before, m, record { commit = commit_kept e is.commit; next = is.next; happens = is.happens; told = is.told })

  refusal_step : (es : List (Event C)) (e : Event C) (m n : Scene C R) → LeadsTo es m → OfRefusals es m
      → Happens reply IsUnmoved e m n → OfRefusals (es ++ e ∷ []) n
  refusal_step es e m n leads all happens v was =
      elim (decides e m n happens) [
        | inl quiet ↦ refusal_kept es e v (all v (sym (quiet.1 v) ∙ was))
        | inr (w, c, before, is, holds, inl stays) ↦
            elim (told_or_kept w v (Accepted (length m.history + 1)) (with_entry (entry w c (reply before c)) m) stays.1) [
              | inl now ↦ let bad : Some (Accepted (length m.history + 1)) ≡ Some Refused = sym now.1 ∙ was in absurd (cc)
              | inr kept ↦ refusal_kept es e v (all v (sym kept ∙ was))
            ]
        | inr (w, c, before, is, holds, inr moved) ↦
            elim (told_or_kept w v Refused m moved.1) [
              | inl now ↦
                  subst (λ (k : ℕ). Refusal (es ++ e ∷ []) k) (sym now.0) (
                    c,
                    before,
                    m,
                    record {
                      commit = commit_last es leads is holds;
                      next = n;
                      happens = subst (λ (x : Event C). Happens reply IsUnmoved x m n) is happens;
                      told = subst (λ (k : ℕ). outcome_in n k ≡ Some Refused) now.0 was;
                    },
                  )
              | inr kept ↦ refusal_kept es e v (all v (sym kept ∙ was))
            ]
      ]

  pub are_of_refusals : (es : List (Event C)) (n : Scene C R) → LeadsTo es n → AreOfRefusals reply IsUnmoved es (outcome_in n)
  are_of_refusals = leads_all OfRefusals (λ w was. absurd (cc)) refusal_step

  -- where a worker is told that its commit is refused, what it read was not unmoved
  refused_moved : (w : ℕ) (c : C) (before : List (Entry C R)) (m n : Scene C R)
      → Commits reply IsUnmoved w (answer c before) m n → outcome_in n w ≡ Some Refused → ¬ (IsUnmoved before c m.history)
  refused_moved w c before m n (inl stays) told =
      let outcome : Outcome = Accepted (length m.history + 1) in
      let here : outcome_in n w ≡ Some outcome =
      ap (λ (x : Scene C R). outcome_in x w) stays.1
      ∙ ap (λ (y : Worker C R). y.outcome) (worker_same w (worker_after outcome) (with_entry (entry w c (reply before c)) m)) in
      let bad : Some outcome ≡ Some Refused = sym here ∙ told in
      absurd (cc)
  refused_moved w c before m n (inr moved) told = moved.0

  pub refusal_moved : {es : List (Event C)} {w : ℕ} {c : C} {before : List (Entry C R)} {m : Scene C R}
      → IsRefusedIn reply IsUnmoved es w c before m → ¬ (IsUnmoved before c m.history)
  refusal_moved {w = w} {c = c} {before = before} {m = m} is =
      refused_moved w c before m is.next
      (subst (λ (h : Hand C R). Commits reply IsUnmoved w h m is.next) is.commit.holds is.happens) is.told

  abbrev Committed : List (Event C) → Scene C R → Type 0
  Committed es n = AreCommitted reply IsUnmoved es n.history

  committed_kept : (es : List (Event C)) (e : Event C) (history : List (Entry C R)) → AreCommitted reply IsUnmoved es history
      → AreCommitted reply IsUnmoved (es ++ e ∷ []) history
  committed_kept es e history all k x at =
      let h = all k x at in
      (h.0, h.1, commit_kept e h.2, h.3, h.4, h.5)

  committed_step : (es : List (Event C)) (e : Event C) (m n : Scene C R) → LeadsTo es m → Committed es m
      → Happens reply IsUnmoved e m n → Committed (es ++ e ∷ []) n
  committed_step es e m n leads all happens =
      elim (decides e m n happens) [
        | inl quiet ↦ subst (AreCommitted reply IsUnmoved (es ++ e ∷ [])) (sym quiet.0) (committed_kept es e m.history all)
        | inr (w, c, before, is, holds, inl stays) ↦
            subst (λ (x : Scene C R). AreCommitted reply IsUnmoved (es ++ e ∷ []) x.history) (sym stays.1)
            (grown w c before is holds stays.0)
        | inr (w, c, before, is, holds, inr moved) ↦
            subst (λ (x : Scene C R). AreCommitted reply IsUnmoved (es ++ e ∷ []) x.history) (sym moved.1)
            (committed_kept es e m.history all)
      ]
    where
      grown : (w : ℕ) (c : C) (before : List (Entry C R)) → e ≡ Commit w → (m.workers w).hand ≡ answer c before
          → IsUnmoved before c m.history
          → AreCommitted reply IsUnmoved (es ++ e ∷ []) (m.history ++ entry w c (reply before c) ∷ [])
      grown w c before is holds unmoved k x at =
          let last : Entry C R = entry w c (reply before c) in
          elim (at_push m.history last k x at) [
            | inl old ↦
                let h = committed_kept es e m.history all k x old in
                (h.0, h.1, h.2, h.3 ∙ sym (take_before m.history (last ∷ []) k x old), h.4, h.5)
            | inr new ↦
                let whole : take k (m.history ++ last ∷ []) ≡ m.history =
                ap (λ (j : ℕ). take j (m.history ++ last ∷ [])) new.0 ∙ take-append_seam m.history (last ∷ []) in
                subst (λ (y : Entry C R).
                (b : List (Entry C R)) × (k' : Scene C R) × CommitsIn reply IsUnmoved (es ++ e ∷ []) y.desk y.call b k'
                × (k'.history ≡ take k (m.history ++ last ∷ [])) × IsUnmoved b y.call k'.history × (y.reply ≡ reply b y.call))
                (sym new.1)
                (before, m, commit_last es leads is holds, sym whole, unmoved, refl)
          ]

  pub are_committed : (es : List (Event C)) (n : Scene C R) → LeadsTo es n → AreCommitted reply IsUnmoved es n.history
  are_committed = leads_all Committed (λ k e at. absurd (cc)) committed_step

  abbrev Placed : List (Event C) → Scene C R → Type 0
  Placed es n = AreAtTheirPositions n.history (outcome_in n)

  -- the entry of a worker at a position
  abbrev Place : List (Entry C R) → ℕ → ℕ → Type 0
  Place history w p = (k : ℕ) × (e : Entry C R) × (p ≡ k + 1) × (slice_get history k ≡ Some e) × (e.desk ≡ w)

  placed_step : (es : List (Event C)) (e : Event C) (m n : Scene C R) → LeadsTo es m → Placed es m
      → Happens reply IsUnmoved e m n → Placed (es ++ e ∷ []) n
  placed_step es e m n leads all happens v p was =
      elim (decides e m n happens) [
        | inl quiet ↦ subst (λ (h : List (Entry C R)). Place h v p) (sym quiet.0) (all v p (sym (quiet.1 v) ∙ was))
        | inr (w, c, before, is, holds, inl stays) ↦
            let last : Entry C R = entry w c (reply before c) in
            let grown : n.history ≡ m.history ++ last ∷ [] = ap (λ (x : Scene C R). x.history) stays.1 in
            subst (λ (h : List (Entry C R)). Place h v p) (sym grown)
            (elim (told_or_kept w v (Accepted (length m.history + 1)) (with_entry last m) stays.1) [
              | inl now ↦
                  let same : Some (Accepted (length m.history + 1)) ≡ Some (Accepted p) = sym now.1 ∙ was in
                  let position : length m.history + 1 ≡ p = cc in
                  (length m.history, last, sym position, slice_get-pushed m.history last, sym now.0)
              | inr kept ↦
                  let h = all v p (sym kept ∙ was) in
                  (h.0, h.1, h.2, at_before m.history (last ∷ []) h.0 h.1 h.3, h.4)
            ])
        | inr (w, c, before, is, holds, inr moved) ↦
            let same : n.history ≡ m.history = ap (λ (x : Scene C R). x.history) moved.1 in
            subst (λ (h : List (Entry C R)). Place h v p) (sym same)
            (elim (told_or_kept w v Refused m moved.1) [
              | inl now ↦ let bad : Some Refused ≡ Some (Accepted p) = sym now.1 ∙ was in absurd (cc)
              | inr kept ↦ all v p (sym kept ∙ was)
            ])
      ]

  pub are_placed : (es : List (Event C)) (n : Scene C R) → LeadsTo es n
      → AreAtTheirPositions n.history (outcome_in n)
  are_placed = leads_all Placed (λ w p was. absurd (cc)) placed_step
