-- to believe: what the passes of an engine's desks hold
use Rattle.std.specs.Prelude.{ℕ, List, length, map}
use Rattle.std.specs.List.{sum_by}
use Rattle.casa_history.specs.declared.pass.Pass.{Pass}
use Rattle.casa_history.specs.Entries.{receipts}
use Rattle.casa_commit.specs.declared.world.World.{Ghosts as WorldOf}
use Rattle.casa_front.specs.declared.rule.Named.{Ghosts as NamedOf}
use Rattle.casa_engine.specs.declared.pass.CountedPass.{CountedPass}

module _ {W C V D R L : Type 0} {world : WorldOf W C V D R} {named : NamedOf L} where
  -- the pass that a desk's pass is, without its part of the ledger
  abbrev pub pass_of : CountedPass W L C V D R world named → Pass C R
  pass_of desk = desk.pass

  -- the same of several
  abbrev pub passes_in : List (CountedPass W L C V D R world named) → List (Pass C R)
  passes_in desks = map pass_of desks

  -- how many receipts they have in all
  abbrev pub calls_in : List (CountedPass W L C V D R world named) → ℕ
  calls_in desks = sum_by (λ (desk : CountedPass W L C V D R world named). length (receipts (pass_of desk))) desks
