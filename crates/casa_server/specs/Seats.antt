-- to believe: a desk that answers connections, one after the other
use Rattle.std.specs.Prelude.{◌≡◌, ◌-◌, ◌^◌, ℕ, List, [], ◌∷◌, length, map, take, is_err, Option, Result, IfSome, IfNone, ⊤}
use Rattle.std.specs.List.{count_by}
use mathlib.Core.List.{IsPrefix}
use Rattle.casa_flight.specs.declared.call.Call.{Call}
use Rattle.casa_flight.specs.declared.reply.Reply.{Reply}
use Rattle.casa_history.specs.declared.entry.Entry.{Entry}
use Rattle.casa_history.specs.Entries.{receipts, receipts_of, desk_of}
use Rattle.casa_commit.specs.declared.world.World.{Ghosts as WorldOf}
use Rattle.casa_commit.specs.Legal.{IsLegal}
use Rattle.casa_front.specs.declared.rule.Named.{Ghosts as NamedOf}
use Rattle.casa_engine.specs.declared.pass.CountedPass.{CountedPass}
use Rattle.casa_engine.specs.Fronts.{front_of}
use Rattle.casa_engine.specs.Passes.{pass_of}
use Rattle.casa_session.specs.Receipts.{Receipts}
use Rattle.casa_session.specs.declared.fault.SessionFault.{SessionFault}
use Rattle.casa_session.specs.Transcript.{Ends}
use Rattle.casa_server.specs.declared.seat.Sat.{Sat}
use Rattle.casa_server.specs.declared.staying.Stayed.{Stayed}

-- as many connections as a seat counts
abbrev pub most_connections : ℕ
most_connections = 2 ^ 64 - 1

-- a connection with how its session ended
abbrev pub Visit : (I O : Type 0) → Type 0
Visit I O = (I × O) × Result ℕ SessionFault

abbrev pub connections_in : {I O : Type 0} → List (Visit I O) → List (I × O)
connections_in {I} {O} visits = map (λ (v : Visit I O). v.0) visits

module _ {I O : Type 0} (remaining : I → Option (List ℕ)) (contents : O → Option (List ℕ)) where
  -- a desk that had the receipts a has b: those of the calls of this connection, whose session ended so
  pub record Answers (a b : Receipts) (visit : Visit I O) : Type 0 where
    pub after : I × O
    pub ends : Ends ⊤ visit.1 (record {
      input = remaining visit.0.0;
      input_left = remaining after.0;
      receipts = a;
      receipts_now = b;
      output = contents visit.0.1;
      output_now = contents after.1;
    })

  -- a desk that had the receipts a has b: those of the calls of these connections, one after the other
  abbrev pub AnswersInTurn : (a b : Receipts) → List (Visit I O) → Type 0
  AnswersInTurn a b [] = b ≡ a
  AnswersInTurn a b (visit ∷ visits) = (between : Receipts) × Answers a between visit × AnswersInTurn between b visits

module _ {I O W V D L : Type 0} (world : WorldOf W Call V D Reply) (named : NamedOf L)
    (remaining : I → Option (List ℕ)) (contents : O → Option (List ℕ)) where
  -- a seat has answered all connections that came, as far as it counts, where it is known which came: a pass of the engine of
  -- this name, which had no receipt before, has now those of their calls, and so many of their sessions ended by a fault. What
  -- the pass has seen is a beginning of this history, and there these are the receipts of its desk's entries
  pub record HasSat (history : List (Entry Call Reply)) (coming : Option (List (I × O))) (sat : Sat) : Type 0 where
    pub pass : CountedPass W L Call V D Reply world named
    pub seen : IsPrefix (front_of pass) history
    pub told : receipts (pass_of pass) ≡ receipts_of (desk_of (pass_of pass)) (front_of pass)
    pub visits : List (Visit I O)
    pub all : IfSome coming (λ connections. connections_in visits ≡ take most_connections connections)
    pub answered : AnswersInTurn remaining contents [] (receipts (pass_of pass)) visits
    pub sessions : sat.sessions ≡ length visits
    pub faulted : sat.faulted ≡ count_by (λ (v : Visit I O). is_err v.1) visits

  -- seats over sources of which each is known to bring these connections, or not, have sat so
  abbrev pub HaveSat : List (Entry Call Reply) → List (Option (List (I × O))) → List Sat → Type 0
  HaveSat history [] [] = ⊤
  HaveSat history [] (s ∷ ss) = ⊥
  HaveSat history (c ∷ cs) [] = ⊥
  HaveSat history (c ∷ cs) (s ∷ ss) = HasSat history c s × HaveSat history cs ss

  -- a server has stayed: the first of its sources, of which each is known to bring these connections, or not, had seats, and
  -- all of them had, unless a fault says why not; the seats have sat so. All of it is of this one history, which is legal
  pub record HasStayed (history : List (Entry Call Reply)) (comings : List (Option (List (I × O)))) (stayed : Stayed) : Type 0 where
    pub legal : IsLegal world.after world.reply world.opening history
    pub seats : HaveSat history (take (length stayed.sats.items) comings) stayed.sats.items
    pub all : IfNone stayed.fault (length stayed.sats.items ≡ length comings)
