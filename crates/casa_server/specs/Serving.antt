-- to believe: what becomes of the connections that a server accepts
use Rattle.std.specs.Prelude.{◌≡◌, ℕ, List, [], length, map, take, Bool, true, Option, Result, is_err, IfSome, All, ⊤}
use Rattle.std.specs.List.{count_by}
use mathlib.Core.List.{IsPrefix}
use Rattle.casa_flight.specs.declared.call.Call.{Call}
use Rattle.casa_flight.specs.declared.reply.Reply.{Reply}
use Rattle.casa_history.specs.declared.entry.Entry.{Entry}
use Rattle.casa_history.specs.Entries.{receipts, receipts_of, desk_of}
use Rattle.casa_commit.specs.declared.world.World.{Ghosts as WorldOf}
use Rattle.casa_commit.specs.Legal.{IsLegal}
use Rattle.casa_front.specs.declared.rule.Named.{Ghosts as NamedOf}
use Rattle.casa_engine.specs.declared.pass.CountedPass.{CountedPass}
use Rattle.casa_engine.specs.Fronts.{front_of}
use Rattle.casa_engine.specs.Passes.{pass_of}
use Rattle.casa_session.specs.declared.fault.SessionFault.{SessionFault}
use Rattle.casa_session.specs.Transcript.{Ends}
use Rattle.casa_server.specs.declared.server.Served.{Served}

-- how a connection ended: it was refused a desk, or its session ended with this result
pub data Ending : Type 0 where
  refused : Ending
  ended : Result ℕ SessionFault → Ending

-- the connection was refused, or its session ended by a fault
abbrev pub is_faulted : Ending → Bool
is_faulted refused = true
is_faulted (ended result) = is_err result

-- a connection is what is read and what is written; how much is left to read and what has been written is known, or not
module _ {I O W V D L : Type 0} (world : WorldOf W Call V D Reply) (named : NamedOf L)
    (remaining : I → Option (List ℕ)) (contents : O → Option (List ℕ)) where
  -- a connection's session ended with this result: its lines were answered by a pass of the engine of this name, which had
  -- no receipt before, and has now those of the lines' calls. What the pass has seen is a beginning of this history, and
  -- there these are the receipts of its desk's entries
  pub record IsSession (history : List (Entry Call Reply)) (before : I × O) (result : Result ℕ SessionFault) : Type 0 where
    pub after : I × O
    pub pass : CountedPass W L Call V D Reply world named
    pub seen : IsPrefix (front_of pass) history
    pub told : receipts (pass_of pass) ≡ receipts_of (desk_of (pass_of pass)) (front_of pass)
    pub ends : Ends ⊤ result (record {
      input = remaining before.0;
      input_left = remaining after.0;
      receipts = [];
      receipts_now = receipts (pass_of pass);
      output = contents before.1;
      output_now = contents after.1;
    })

  abbrev pub HasEnded : List (Entry Call Reply) → I × O → Ending → Type 0
  HasEnded history connection refused = ⊤
  HasEnded history connection (ended result) = IsSession history connection result

  -- these connections have ended, n of them faulted
  pub record HaveEnded (history : List (Entry Call Reply)) (connections : List (I × O)) (n : ℕ) : Type 0 where
    -- each with how it ended
    pub endings : List ((I × O) × Ending)
    pub all : map (λ (e : (I × O) × Ending). e.0) endings ≡ connections
    pub each : All (λ (e : (I × O) × Ending). HasEnded history e.0 e.1) endings
    pub faulted : n ≡ count_by (λ (e : (I × O) × Ending). is_faulted e.1) endings

  -- the connections that were accepted are the first of those that are known to come, and all have ended; what they were
  -- answered is of this one history, which is legal
  pub record Serves (history : List (Entry Call Reply)) (coming : Option (List (I × O))) (served : Served) : Type 0 where
    pub legal : IsLegal world.after world.reply world.opening history
    pub connections : List (I × O)
    pub sessions : served.sessions ≡ length connections
    pub first : IfSome coming (λ all. connections ≡ take served.sessions all)
    pub ended : HaveEnded history connections served.faulted
