-- to believe: by which commits the entries of a history stand there, and which commits were refused
use Rattle.std.specs.Prelude.{◌≡◌, ℕ, ◌+◌, Option, Some, List, take, slice_get}
use Rattle.casa_history.specs.declared.entry.Entry.{Entry}
use Rattle.casa_interleavings.specs.declared.event.Event.{Event}
use Rattle.casa_interleavings.specs.declared.event.Event.TheVariants.{Commit}
use Rattle.casa_interleavings.specs.declared.event.Outcome.{Outcome}
use Rattle.casa_interleavings.specs.declared.event.Outcome.TheVariants.{Accepted, Refused}
use Rattle.casa_interleavings.specs.Scenes.{Scene, answer, opening_scene, Happens, Leads}

-- where a worker's last commit was accepted at a position, the entry there is this worker's
abbrev pub AreAtTheirPositions : {C R : Type 0} → List (Entry C R) → (ℕ → Option Outcome) → Type 0
AreAtTheirPositions {C} {R} history outcomes =
    (w position : ℕ) → outcomes w ≡ Some (Accepted position) →
    (k : ℕ) × (e : Entry C R) × (position ≡ k + 1) × (slice_get history k ≡ Some e) × (e.desk ≡ w)

module _ {C R : Type 0} (reply : List (Entry C R) → C → R) (IsUnmoved : List (Entry C R) → C → List (Entry C R) → Type 0) where
  -- one of the events is a commit of a worker that holds the answer to a call, worked out on a view that it took after a
  -- history; the events before it led to this scene
  pub record CommitsIn (events : List (Event C)) (w : ℕ) (call : C) (before : List (Entry C R)) (m : Scene C R) : Type 0 where
    pub index : ℕ
    pub is_commit : slice_get events index ≡ Some (Commit w)
    pub leads : Leads reply IsUnmoved (take index events) opening_scene m
    pub holds : (m.workers w).hand ≡ answer call before

  -- each entry of the history stands there by a commit: its desk is the worker, its call the one for which the worker
  -- read, and before that commit the history was what stands before the entry
  abbrev pub AreCommitted : List (Event C) → List (Entry C R) → Type 0
  AreCommitted events history =
      (k : ℕ) (e : Entry C R) → slice_get history k ≡ Some e →
      (before : List (Entry C R)) × (m : Scene C R) × CommitsIn events e.desk e.call before m × (m.history ≡ take k history)
      × IsUnmoved before e.call m.history × (e.reply ≡ reply before e.call)

  -- one of the events is such a commit, and its worker is told that it is refused
  pub record IsRefusedIn (events : List (Event C)) (w : ℕ) (call : C) (before : List (Entry C R)) (m : Scene C R) : Type 0 where
    pub commit : CommitsIn events w call before m
    pub next : Scene C R
    pub happens : Happens reply IsUnmoved (Commit w) m next
    pub told : (next.workers w).outcome ≡ Some Refused

  -- where a worker's last commit was refused, one of the events is a commit of this worker that is refused
  abbrev pub AreOfRefusals : List (Event C) → (ℕ → Option Outcome) → Type 0
  AreOfRefusals events outcomes =
      (w : ℕ) → outcomes w ≡ Some Refused →
      (call : C) × (before : List (Entry C R)) × (m : Scene C R) × IsRefusedIn events w call before m
