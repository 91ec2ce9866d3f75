-- to believe: what a list of events leads to
use Rattle.std.specs.Prelude.{◌≡◌, ◌⊎◌, ℕ, ◌+◌, ◌==◌, nat_lt, if◌then◌else◌, Option, Some, None, List, [], ◌∷◌, ◌++◌, length}
use Rattle.casa_history.specs.declared.entry.Entry.{Entry}
use Rattle.casa_commit.specs.Legal.{entry}
use Rattle.casa_interleavings.specs.declared.event.Event.{Event}
use Rattle.casa_interleavings.specs.declared.event.Event.TheVariants.{Read, Compute, Commit, Abandon}
use Rattle.casa_interleavings.specs.declared.event.Outcome.{Outcome}
use Rattle.casa_interleavings.specs.declared.event.Outcome.TheVariants.{Accepted, Refused}

-- the most workers: numbered from 0 (profile)
abbrev pub most_workers : ℕ
most_workers = 1024

-- what a worker holds: nothing; a view for a call, taken after a history; or such a view with the answer to the call
pub data Hand (C R : Type 0) : Type 0 where
  nothing : Hand C R
  view : C → List (Entry C R) → Hand C R
  answer : C → List (Entry C R) → Hand C R

-- a worker: what it holds, and the outcome of its last commit, if it made one
pub record Worker (C R : Type 0) : Type 0 where
  pub hand : Hand C R
  pub outcome : Option Outcome

-- a history, and the workers
pub record Scene (C R : Type 0) : Type 0 where
  pub history : List (Entry C R)
  pub workers : ℕ → Worker C R

-- a worker that holds nothing and made no commit
abbrev pub idle_worker : {C R : Type 0} → Worker C R
idle_worker = record { hand = nothing; outcome = None }

-- the scene before all events: no entry, and idle workers
abbrev pub opening_scene : {C R : Type 0} → Scene C R
opening_scene = record { history = []; workers = λ w. idle_worker }

-- the scene in which one worker is another
abbrev pub with_worker : {C R : Type 0} → ℕ → Worker C R → Scene C R → Scene C R
with_worker w x m = record m { workers = λ v. if v == w then x else m.workers v }

-- the worker with something else in its hand
abbrev pub with_hand : {C R : Type 0} → Hand C R → Worker C R → Worker C R
with_hand hand x = record x { hand = hand }

-- Read: who holds nothing gets the view after the present history
abbrev pub read : {C R : Type 0} → C → List (Entry C R) → Hand C R → Hand C R
read call now nothing = view call now
read call now (view c before) = view c before
read call now (answer c before) = answer c before

-- Compute: who holds a view gets the answer with it
abbrev pub compute : {C R : Type 0} → Hand C R → Hand C R
compute nothing = nothing
compute (view c before) = answer c before
compute (answer c before) = answer c before

-- a worker whose commit came out like this holds nothing
abbrev pub worker_after : {C R : Type 0} → Outcome → Worker C R
worker_after outcome = record { hand = nothing; outcome = Some outcome }

-- Commit, accepted: the call with the reply that was worked out stands behind the history
abbrev pub accepted_scene : {C R : Type 0} → (List (Entry C R) → C → R) → ℕ → C → List (Entry C R) → Scene C R → Scene C R
accepted_scene reply w call before m =
    with_worker w (worker_after (Accepted (length m.history + 1)))
    (record m { history = m.history ++ entry w call (reply before call) ∷ [] })

-- Commit, refused: nothing but the worker changes
abbrev pub refused_scene : {C R : Type 0} → ℕ → Scene C R → Scene C R
refused_scene w m = with_worker w (worker_after Refused) m

-- Commit: who holds an answer is accepted if all stamps of its view are the present ones, and else refused
abbrev pub Commits : {C R : Type 0} → (List (Entry C R) → C → R) → (List (Entry C R) → C → List (Entry C R) → Type 0)
    → ℕ → Hand C R → Scene C R → Scene C R → Type 0
Commits reply IsUnmoved w nothing m n = n ≡ m
Commits reply IsUnmoved w (view c before) m n = n ≡ m
Commits reply IsUnmoved w (answer c before) m n =
    (IsUnmoved before c m.history × (n ≡ accepted_scene reply w c before m))
    ⊎ ((¬ (IsUnmoved before c m.history)) × (n ≡ refused_scene w m))

-- inner: the worker of an event
abbrev pub worker_of : {C : Type 0} → Event C → ℕ
worker_of (Read w c) = w
worker_of (Compute w) = w
worker_of (Commit w) = w
worker_of (Abandon w) = w

-- a scene becomes another by an event; an event of a worker beyond the most changes nothing
abbrev pub Happens : {C R : Type 0} → (List (Entry C R) → C → R) → (List (Entry C R) → C → List (Entry C R) → Type 0)
    → Event C → Scene C R → Scene C R → Type 0
Happens reply IsUnmoved (Read w c) m n =
    n ≡ (if nat_lt w most_workers then with_worker w (with_hand (read c m.history (m.workers w).hand) (m.workers w)) m else m)
Happens reply IsUnmoved (Compute w) m n = n ≡ with_worker w (with_hand (compute (m.workers w).hand) (m.workers w)) m
Happens reply IsUnmoved (Commit w) m n = Commits reply IsUnmoved w (m.workers w).hand m n
Happens reply IsUnmoved (Abandon w) m n = n ≡ with_worker w (with_hand nothing (m.workers w)) m

-- a scene becomes another by a list of events, one after the other
abbrev pub Leads : {C R : Type 0} → (List (Entry C R) → C → R) → (List (Entry C R) → C → List (Entry C R) → Type 0)
    → List (Event C) → Scene C R → Scene C R → Type 0
Leads reply IsUnmoved [] m n = n ≡ m
Leads {C} {R} reply IsUnmoved (e ∷ es) m n =
    (k : Scene C R) × (Happens reply IsUnmoved e m k) × (Leads reply IsUnmoved es k n)

-- a worker reads, computes and commits a call, with no event between
abbrev pub turn : {C : Type 0} → ℕ → C → List (Event C)
turn w call = Read w call ∷ Compute w ∷ Commit w ∷ []

-- a run of a list of events: the history and the outcomes of the scene to which they lead from the opening scene
abbrev pub IsRun : {C R : Type 0} → (List (Entry C R) → C → R) → (List (Entry C R) → C → List (Entry C R) → Type 0)
    → List (Event C) → List (Entry C R) → (ℕ → Option Outcome) → Type 0
IsRun {C} {R} reply IsUnmoved events history outcomes =
    (n : Scene C R) × Leads reply IsUnmoved events opening_scene n × (history ≡ n.history)
    × ((w : ℕ) → outcomes w ≡ (n.workers w).outcome)
