-- inner contracts: what a desk holds, and the worker for which it stands
use Rattle.std.specs.Prelude.{◌≡◌, ◌⊎◌, ℕ, ◌+◌, ◌≤◌, Some, None, List, [], ◌∷◌, ◌++◌, length, slice_get}
use Rattle.casa_interleavings.specs.declared.event.Outcome.{Outcome}
use Rattle.casa_interleavings.specs.declared.event.Outcome.TheVariants.{Accepted, Refused}
use Rattle.casa_history.specs.declared.entry.Entry.{Entry}
use Rattle.casa_interleavings.specs.declared.desk.Held.{Held}
use Rattle.casa_interleavings.specs.declared.desk.Held.TheVariants.{Nothing, View, Answer}
use Rattle.casa_interleavings.specs.declared.desk.Desk.{Desk}
use Rattle.casa_history.specs.declared.pass.Pass.{Pass}
use Rattle.casa_history.specs.Entries.{receipts, desk_of, number_of}
use Rattle.casa_interleavings.specs.Scenes.{Hand, nothing, view, answer, Worker, Scene, idle_worker}

-- a history begins with another
abbrev pub Begins : {C R : Type 0} → List (Entry C R) → List (Entry C R) → Type 0
Begins {C} {R} before es = (later : List (Entry C R)) × (es ≡ before ++ later)

-- a view of a world with this history was taken for a call after a history with which this one begins
abbrev pub IsViewTaken : {C R V W S : Type 0} → (V → C → Type 0) → (V → W → Type 0) → (S → V → Type 0)
    → (List (Entry C R) → C → V → Type 0) → (V → W → Type 0) → (List (Entry C R) → S) → W → List (Entry C R)
    → C → List (Entry C R) → V → Type 0
IsViewTaken IsFor IsOf Shows IsViewOf IsTied replay world es c before v =
    IsFor v c × IsOf v world × Shows (replay before) v × IsViewOf before c v × Begins before es × IsTied v world

-- a call's reply was worked out on such a view
abbrev pub IsReplyOnView : {C R V W : Type 0} → (V → W → Type 0) → (List (Entry C R) → C → V → Type 0)
    → (V → W → Type 0) → (List (Entry C R) → C → R) → W → List (Entry C R) → C → List (Entry C R) → C → V → R → Type 0
IsReplyOnView IsOf IsViewOf IsTied reply world es c before d v r =
    (d ≡ c) × IsOf v world × IsViewOf before c v × Begins before es × (r ≡ reply before c) × IsTied v world

-- what a desk holds stands for what a worker holds
abbrev pub Holds : {C R V P : Type 0} → (C → List (Entry C R) → V → Type 0) → (C → List (Entry C R) → P → Type 0)
    → Held C V P → Hand C R → Type 0
Holds IsView IsAnswer Nothing nothing = Unit {0}
Holds IsView IsAnswer Nothing (view c before) = ⊥
Holds IsView IsAnswer Nothing (answer c before) = ⊥
Holds IsView IsAnswer (View d v) nothing = ⊥
Holds IsView IsAnswer (View d v) (view c before) = (d ≡ c) × IsView c before v
Holds IsView IsAnswer (View d v) (answer c before) = ⊥
Holds IsView IsAnswer (Answer p) nothing = ⊥
Holds IsView IsAnswer (Answer p) (view c before) = ⊥
Holds IsView IsAnswer (Answer p) (answer c before) = IsAnswer c before p

-- a desk stands for a worker: it holds what the worker holds, and was told the same
abbrev pub IsWorker : {C R V P : Type 0} → (C → List (Entry C R) → V → Type 0) → (C → List (Entry C R) → P → Type 0)
    → Desk C R V P → Worker C R → Type 0
IsWorker IsView IsAnswer desk x = Holds IsView IsAnswer desk.held x.hand × (desk.outcome ≡ x.outcome)

-- the view that a desk holds is for its call
abbrev pub IsForHeld : {C V P : Type 0} → (V → C → Type 0) → Held C V P → Type 0
IsForHeld IsFor Nothing = Unit {0}
IsForHeld IsFor (View c v) = IsFor v c
IsForHeld IsFor (Answer p) = Unit {0}

-- the answer that a desk holds was worked out on a view of the world
abbrev pub IsOfHeld : {C V P : Type 0} → (P → Type 0) → Held C V P → Type 0
IsOfHeld IsOf Nothing = Unit {0}
IsOfHeld IsOf (View c v) = Unit {0}
IsOfHeld IsOf (Answer p) = IsOf p

-- what comes of a commit: where nothing was moved, it is accepted and its entry stands behind the history; else it is
-- refused, and the history stays
abbrev pub IsOutcomeOfCommit : {E : Type 0} → Type 0 → Outcome → List E → E → List E → Type 0
IsOutcomeOfCommit Unmoved outcome es e fs =
    (Unmoved × (outcome ≡ Accepted (length es + 1)) × (fs ≡ es ++ e ∷ []))
    ⊎ ((¬ Unmoved) × (outcome ≡ Refused) × (fs ≡ es))

-- the desks and their history stand for a scene: each desk is its worker's and known, and who has no desk is idle
abbrev pub IsScene : {C R V P : Type 0} → (Pass C R → Type 0) → (C → List (Entry C R) → V → Type 0)
    → (C → List (Entry C R) → P → Type 0) → List (Entry C R) → List (Desk C R V P) → Scene C R → Type 0
IsScene {C} {R} {V} {P} IsAdmitted IsView IsAnswer es ds m =
    (m.history ≡ es)
    × ((w : ℕ) (d : Desk C R V P) → slice_get ds w ≡ Some d →
    (desk_of d.pass ≡ w) × IsAdmitted d.pass × IsWorker IsView IsAnswer d (m.workers w))
    × ((w : ℕ) → length ds ≤ w → m.workers w ≡ idle_worker)

-- each desk is its worker's and known, and what it holds is of the world
abbrev pub AreSeated : {C R V P : Type 0} → (Pass C R → Type 0) → (V → C → Type 0) → (P → Type 0) → List (Desk C R V P) → Type 0
AreSeated {C} {R} {V} {P} IsAdmitted IsFor IsOf ds =
    (w : ℕ) (d : Desk C R V P) → slice_get ds w ≡ Some d →
    (desk_of d.pass ≡ w) × IsAdmitted d.pass × IsForHeld IsFor d.held × IsOfHeld IsOf d.held

-- the desks are as they are opened
abbrev pub AreFresh : {C R V P : Type 0} → ℕ → List (Desk C R V P) → Type 0
AreFresh {C} {R} {V} {P} number ds =
    (w : ℕ) (d : Desk C R V P) → slice_get ds w ≡ Some d →
    (desk_of d.pass ≡ w) × (number_of d.pass ≡ number) × (receipts d.pass ≡ []) × (d.held ≡ Nothing) × (d.outcome ≡ None)
