-- calls that worker 0 answers again
use Rattle.std.proofs.Common.{◌≡◌, ℕ, List, [], ◌∷◌, ◌++◌, sym, ap, subst, ◌∙◌, refl, arith}
use Rattle.std.proofs.lemmas.List.{append_assoc, map-append}
use Rattle.casa_flight.specs.declared.call.Call.{Call}
use Rattle.casa_flight.specs.declared.reply.Reply.{Reply}
use Rattle.casa_history.specs.declared.entry.Entry.{Entry}
use Rattle.casa_commit.specs.Legal.{entry}
use Rattle.casa_interleavings.specs.declared.event.Event.{Event}
use Rattle.casa_day.specs.Scripts.{calls_in}
use Rattle.casa_interleavings.specs.declared.event.Event.TheVariants.{Read, Compute, Commit}
use Rattle.casa_interleavings.specs.Scenes.{Scene, nothing, turn, opening_scene, Leads}
use Rattle.casa_interleavings.specs.Board.{sequential_reply, HasSameStamps}
use Rattle.casa_interleavings.specs.Runs.{Played, run_events, run_history}
use Rattle.casa_interleavings.proofs.Turns.{turn_accepted}
use Rattle.casa_interleavings.specs.Deeds.{again}
use Rattle.casa_interleavings.specs.Openings.{IsBoardRun, IsAgain}
use Rattle.casa_interleavings.proofs.Growing.{leads_split, leads_rest}

abbrev Led : List (Event Call) → Scene Call Reply → Scene Call Reply → Type 0
Led es m n = Leads sequential_reply HasSameStamps es m n

-- the history after a turn of worker 0
turned_scene : (c : Call) (m n : Scene Call Reply) → (m.workers 0).hand ≡ nothing → Led (turn 0 c) m n
    → (n.history ≡ m.history ++ entry 0 c (sequential_reply m.history c) ∷ []) × ((n.workers 0).hand ≡ nothing)
turned_scene c m n idle leads =
    let is = turn_accepted sequential_reply HasSameStamps (λ before call i seen. refl) 0 c m n (omega arith) idle leads in (
      ap (λ (k : Scene Call Reply). k.history) is,
      ap (λ (k : Scene Call Reply). (k.workers 0).hand) is,
    )

-- after its turns worker 0 holds nothing
again_idle : (cs : List Call) (m n : Scene Call Reply) → (m.workers 0).hand ≡ nothing → Led (again cs) m n
    → (n.workers 0).hand ≡ nothing
again_idle [] m n idle is = ap (λ (k : Scene Call Reply). (k.workers 0).hand) is ∙ idle
again_idle (c ∷ cs) m n idle leads =
    let split = leads_split sequential_reply HasSameStamps (turn 0 c) (again cs) m n leads in
    again_idle cs split.0 n (turned_scene c m split.0 idle split.1).1 split.2

-- one call more
again_push : (cs : List Call) (c : Call) → again (cs ++ c ∷ []) ≡ again cs ++ turn 0 c
again_push [] c = refl
again_push (d ∷ cs) c = ap (λ es. turn 0 d ++ es) (again_push cs c) ∙ sym (append_assoc (turn 0 d) (again cs) (turn 0 c))

-- three events, one after the other, are a turn
pub turn_made : {C : Type 0} → (w : ℕ) (c : C) (es : List (Event C)) {fs gs hs : List (Event C)}
    → fs ≡ es ++ Read w c ∷ [] → gs ≡ fs ++ Compute w ∷ [] → hs ≡ gs ++ Commit w ∷ [] → hs ≡ es ++ turn w c
turn_made w c es reads computes commits =
    commits
    ∙ ap (λ xs. xs ++ Commit w ∷ [])
    (computes ∙ ap (λ xs. xs ++ Compute w ∷ []) reads ∙ append_assoc es (Read w c ∷ []) (Compute w ∷ []))
    ∙ append_assoc es (Read w c ∷ Compute w ∷ []) (Commit w ∷ [])

-- the run of the journal's calls, with one call more
module _ {B : Type 0} {run : Played B Call Reply} (next : Played B Call Reply) (c : Call) (was : IsAgain run)
    (more : run_events next ≡ run_events run ++ turn 0 c) (is : IsBoardRun next) where
  -- the call stands behind the history, with its sequential reply
  pub answered_history : run_history next ≡ run_history run ++ entry 0 c (sequential_reply (run_history run) c) ∷ []
  answered_history =
      let m = was.is_run.0 in
      let n = is.0 in
      let first = was.is_run.1 in
      let again_led = subst (λ es. Led es opening_scene m) was.events first in
      let idle = again_idle (calls_in (run_history run)) opening_scene m refl again_led in
      let leads = leads_rest sequential_reply HasSameStamps (run_events run) (turn 0 c) opening_scene m n first
      (subst (λ es. Led es opening_scene n) more is.1) in
      is.2 ∙ (turned_scene c m n idle leads).0
      ∙ ap (λ (es : List (Entry Call Reply)). es ++ entry 0 c (sequential_reply es c) ∷ []) (sym was.is_run.2)

  pub answered : IsAgain next
  answered =
      let e = entry 0 c (sequential_reply (run_history run) c) in
      record {
        events = more ∙ ap (λ es. es ++ turn 0 c) was.events ∙ sym (again_push (calls_in (run_history run)) c)
            ∙ ap again (sym (ap (λ es. calls_in es) answered_history
            ∙ map-append (λ (x : Entry Call Reply). x.call) (run_history run) (e ∷ [])));
        is_run = is;
      }
