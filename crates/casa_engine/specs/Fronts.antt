-- to believe: what passes have seen of their engine's history
use Rattle.std.specs.Prelude.{◌≡◌, Some, List, length, map, All}
use mathlib.Core.List.{IsPrefix}
use Rattle.casa_history.specs.declared.entry.Entry.{Entry}
use Rattle.casa_history.specs.declared.entry.Receipt.{Receipt}
use Rattle.casa_history.specs.Entries.{receipts, entry_at}
use Rattle.casa_commit.specs.declared.world.World.{Ghosts as WorldOf}
use Rattle.casa_commit.specs.Legal.{IsLegal}
use Rattle.casa_front.specs.declared.rule.Named.{Ghosts as NamedOf}
use Rattle.casa_engine.specs.declared.pass.CountedPass.{CountedPass}
use Rattle.casa_engine.specs.Passes.{pass_of}

module _ {W C V D R L : Type 0} {world : WorldOf W C V D R} {named : NamedOf L} where
  -- the beginning of the engine's history that a pass has seen
  abbrev pub front_of : CountedPass W L C V D R world named → List (Entry C R)
  front_of desk = desk.front

  -- the same of several
  abbrev pub fronts_in : List (CountedPass W L C V D R world named) → List (List (Entry C R))
  fronts_in desks = map front_of desks

  -- a pass has seen a beginning of this history, and each of its receipts has the entry that is at its position there
  pub record IsToldIn (history : List (Entry C R)) (desk : CountedPass W L C V D R world named) : Type 0 where
    pub seen : IsPrefix (front_of desk) history
    pub stand : All (λ (r : Receipt C R). entry_at r.position history ≡ Some r.entry) (receipts (pass_of desk))

-- each of these is a beginning of a history
abbrev pub AllBegin : {C R : Type 0} → List (List (Entry C R)) → List (Entry C R) → Type 0
AllBegin {C} {R} fronts history = All (λ (front : List (Entry C R)). IsPrefix front history) fronts

module _ {W C V D R : Type 0} (world : WorldOf W C V D R) where
  -- what is seen behind a call: a legal history, which begins with what was seen before, and in which the receipt's entry is
  -- the last, at its position
  pub record IsSeenIn (before : List (Entry C R)) (given : Receipt C R) (now : List (Entry C R)) : Type 0 where
    pub legal : IsLegal world.after world.reply world.opening now
    pub longer : IsPrefix before now
    pub stands : entry_at given.position now ≡ Some given.entry
    pub last : given.position ≡ length now
