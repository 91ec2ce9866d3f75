-- to believe: a timer: a clock's moments, and the ticks that were accepted
use Rattle.std.specs.Prelude.{◌≡◌, ◌≤◌, ℕ, List, [], ◌∷◌, ◌++◌, map, take, length, Bool, true, false, Option, None, Some, IfSome}
use Rattle.std.specs.List.{count_by}
use Rattle.std.specs.Io.KnownBytes.{Consumes, IsAtEnd}
use mathlib.Core.List.{IsPrefix}
use Rattle.casa_flight.specs.declared.call.Call.{Call}
use Rattle.casa_flight.specs.declared.call.Call.TheVariants.{Tick}
use Rattle.casa_flight.specs.declared.reply.Reply.{Reply}
use Rattle.casa_flight.specs.declared.reply.Reply.TheVariants.{Refused, Answered}
use Rattle.casa_history.specs.declared.entry.Entry.{Entry}
use Rattle.casa_history.specs.declared.entry.Receipt.{Receipt}
use Rattle.casa_history.specs.Entries.{receipts, receipts_of, desk_of}
use Rattle.casa_commit.specs.declared.world.World.{Ghosts as WorldOf}
use Rattle.casa_commit.specs.Legal.{IsLegal}
use Rattle.casa_front.specs.declared.rule.Named.{Ghosts as NamedOf}
use Rattle.casa_engine.specs.declared.pass.CountedPass.{CountedPass}
use Rattle.casa_engine.specs.Fronts.{front_of}
use Rattle.casa_engine.specs.Passes.{pass_of}
use Rattle.casa_session.specs.Receipts.{Receipts}
use Rattle.casa_session.specs.Transcript.{calls_of}

-- of the moments that are known to come a clock told the first one, or none where there is none
abbrev pub ClockGives : (before after : Option (List ℕ)) → Option ℕ → Type 0
ClockGives before after (Some at) = Consumes before after (at ∷ [])
ClockGives before after None = IsAtEnd before

abbrev pub is_answered : Reply → Bool
is_answered (Refused r) = false
is_answered (Answered a ms) = true

-- inner: a desk that had the receipts a has b: one more, that of the tick to a moment, which was accepted or not
pub record TicksTo (at : ℕ) (a b : Receipts) (is_accepted : Bool) : Type 0 where
  pub receipt : Receipt Call Reply
  pub grows : b ≡ a ++ receipt ∷ []
  pub called : receipt.entry.call ≡ Tick at
  pub accepted : is_accepted ≡ is_answered receipt.entry.reply

-- how many calls were accepted
abbrev pub count_accepted : Receipts → ℕ
count_accepted receipts = count_by (λ (r : Receipt Call Reply). is_answered r.entry.reply) receipts

-- a desk that had the receipts a has b: those of the ticks to these moments, n of them accepted
pub record Ticks (a b : Receipts) (moments : List ℕ) (n : ℕ) : Type 0 where
  pub receipts : Receipts
  pub grows : b ≡ a ++ receipts
  pub called : calls_of receipts ≡ map Tick moments
  pub accepted : n ≡ count_accepted receipts

-- the moments were the first that were to come, as many as there are turns, or all
pub record Ticked (coming : Option (List ℕ)) (turns : ℕ) (a b : Receipts) (n : ℕ) : Type 0 where
  pub moments : List ℕ
  pub within : length moments ≤ turns
  pub first : IfSome coming (λ ms. moments ≡ take turns ms)
  pub ticks : Ticks a b moments n

module _ {W V D L : Type 0} (world : WorldOf W Call V D Reply) (named : NamedOf L) where
  -- a pass of the engine of this name, which had no receipt before, has those of the ticks, n of them accepted. What it has
  -- seen is a beginning of this history, which is legal, and there these are the receipts of its desk's entries
  pub record IsTicked (history : List (Entry Call Reply)) (coming : Option (List ℕ)) (turns : ℕ) (n : ℕ) : Type 0 where
    pub legal : IsLegal world.after world.reply world.opening history
    pub pass : CountedPass W L Call V D Reply world named
    pub seen : IsPrefix (front_of pass) history
    pub told : receipts (pass_of pass) ≡ receipts_of (desk_of (pass_of pass)) (front_of pass)
    pub ticked : Ticked coming turns [] (receipts (pass_of pass)) n
