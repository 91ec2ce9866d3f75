-- what a desk holds, and what the worker holds for which it stands
use Rattle.std.proofs.Common.{◌≡◌, List, sym, subst, refl}
use Rattle.casa_history.specs.declared.entry.Entry.{Entry}
use Rattle.casa_interleavings.specs.declared.desk.Held.{Held}
use Rattle.casa_interleavings.specs.declared.desk.Held.TheVariants.{Nothing, View, Answer}
use Rattle.casa_interleavings.specs.Scenes.{Hand, nothing, view, answer, compute}
use Rattle.casa_interleavings.specs.Desks.{Holds, IsForHeld, IsOfHeld}

module _ {C R V P : Type 0} (IsView : C → List (Entry C R) → V → Type 0)
    (IsAnswer : C → List (Entry C R) → P → Type 0) where
  -- with an answer in place of its view, a desk stands for the worker that computed
  pub holds_compute : (call : C) (v : V) (p : P)
      → ((c : C) (before : List (Entry C R)) → call ≡ c → IsView c before v → IsAnswer c before p)
      → (hand : Hand C R) → Holds IsView IsAnswer (View call v) hand → Holds IsView IsAnswer (Answer p) (compute hand)
  holds_compute call v p works (view c before) holds = works c before holds.0 holds.1
  holds_compute call v p works hand holds = absurd holds

  -- a desk that holds an answer stands for a worker that holds it
  pub answer_held : (p : P) (hand : Hand C R) → Holds IsView IsAnswer (Answer p) hand
      → (c : C) × (before : List (Entry C R)) × (hand ≡ answer c before) × IsAnswer c before p
  answer_held p (answer c before) holds = (c, before, refl, holds)
  answer_held p hand holds = absurd holds

  -- the view that a desk holds is for its call
  pub holds_for : (IsFor : V → C → Type 0) → ((c : C) (before : List (Entry C R)) (v : V) → IsView c before v → IsFor v c)
      → (held : Held C V P) (hand : Hand C R) → Holds IsView IsAnswer held hand → IsForHeld IsFor held
  holds_for IsFor seen (View call v) (view c before) holds =
      subst (λ (k : C). IsFor v k) (sym holds.0) (seen c before v holds.1)
  holds_for IsFor seen (View call v) hand holds = absurd holds
  holds_for IsFor seen held hand holds = tt

  -- the answer that it holds is of the world
  pub holds_of : (IsOf : P → Type 0) → ((c : C) (before : List (Entry C R)) (p : P) → IsAnswer c before p → IsOf p)
      → (held : Held C V P) (hand : Hand C R) → Holds IsView IsAnswer held hand → IsOfHeld IsOf held
  holds_of IsOf of (Answer p) (answer c before) holds = of c before p holds
  holds_of IsOf of (Answer p) hand holds = absurd holds
  holds_of IsOf of held hand holds = tt

-- what a desk holds goes on standing for the same where views and answers go on being those
module _ {C R V P : Type 0} (IsView IsView' : C → List (Entry C R) → V → Type 0)
    (IsAnswer IsAnswer' : C → List (Entry C R) → P → Type 0)
    (views : (c : C) (before : List (Entry C R)) (v : V) → IsView c before v → IsView' c before v)
    (answers : (c : C) (before : List (Entry C R)) (p : P) → IsAnswer c before p → IsAnswer' c before p) where
  pub still_holds : (held : Held C V P) (hand : Hand C R) → Holds IsView IsAnswer held hand
      → Holds IsView' IsAnswer' held hand
  still_holds Nothing nothing holds = holds
  still_holds (View call v) (view c before) holds = (holds.0, views c before v holds.1)
  still_holds (Answer p) (answer c before) holds = answers c before p holds
  still_holds held hand holds = absurd holds
