-- connections that are accepted, and how they end
use Rattle.std.proofs.Common.{◌≡◌, ℕ, ◌+◌, List, [], ◌∷◌, ◌++◌, map, length, take, Bool, true, false, cond, Option, None, Some, IfSome, Result, Ok, Err, IfOk, refl, sym, ap, subst, ◌∙◌, append_assoc, arith}
use Rattle.std.specs.Prelude.{⊤}
use Rattle.std.proofs.lemmas.List.{map-append, length-map}
use Rattle.std.proofs.lemmas.List.Elements.{All-nil, All-push}
use Rattle.std.proofs.lemmas.List.Sums.{sum_by-append}
use Rattle.std.proofs.Math.Seq.{take-append_seam}
use Rattle.std.specs.Int.{from_bool}
use mathlib.Core.List.{IsPrefix}
use Rattle.casa_flight.specs.declared.call.Call.{Call}
use Rattle.casa_flight.specs.declared.reply.Reply.{Reply}
use Rattle.casa_history.specs.declared.entry.Entry.{Entry}
use Rattle.casa_history.specs.Entries.{receipts}
use Rattle.casa_commit.specs.declared.world.World.{Ghosts as WorldOf}
use Rattle.casa_commit.specs.Legal.{IsLegal}
use Rattle.casa_front.specs.declared.rule.Named.{Ghosts as NamedOf}
use Rattle.casa_engine.specs.declared.pass.CountedPass.{CountedPass}
use Rattle.casa_engine.specs.Fronts.{front_of}
use Rattle.casa_engine.specs.Passes.{pass_of}
use Rattle.casa_engine.proofs.Seeing.{begins_itself, begins_more}
use Rattle.casa_session.specs.Receipts.{Receipts}
use Rattle.casa_session.specs.declared.fault.SessionFault.{SessionFault}
use Rattle.casa_session.specs.Transcript.{Ends}
use Rattle.casa_server.specs.declared.server.Served.{Served}
use Rattle.casa_server.specs.Serving.{Ending, refused, ended, is_faulted, IsSession, HasEnded, HaveEnded, Serves}
use Rattle.casa_server.specs.Sources.{Gives}

pub none_left : {X : Type 0} (xs : List X) → length xs ≡ 0 → xs ≡ []
none_left [] none = refl
none_left (x ∷ xs) none = absurd (omega arith)

-- one connection more
pub gives_more : {X : Type 0} (a b c : Option (List X)) (xs : List X) (x : X) → Gives a b xs → Gives b c (x ∷ []) → Gives a c (xs ++ x ∷ [])
gives_more None b c xs x first next = tt
gives_more (Some all) None c xs x first next = absurd first
gives_more (Some all) (Some left) None xs x first next = absurd next
gives_more (Some all) (Some left) (Some rest) xs x first next =
    first ∙ ap (λ l. xs ++ l) next ∙ sym (append_assoc xs (x ∷ []) rest)

pub gives_none : {X : Type 0} (a : Option (List X)) → Gives a a []
gives_none None = tt
gives_none (Some all) = refl

pub gives_first : {X Y : Type 0} (f : Y → X) (a b : Option (List X)) (ys : List Y) (n : ℕ) → length ys ≡ n → Gives a b (map f ys) → IfSome a (λ all. map f ys ≡ take n all)
gives_first f None b ys n len gives = tt
gives_first f (Some all) None ys n len gives = absurd gives
gives_first f (Some all) (Some left) ys n len gives =
    sym (ap (λ l. take n l) gives ∙ ap (λ k. take k (map f ys ++ left)) (sym (length-map ys f ∙ len)) ∙ take-append_seam (map f ys) left)

as_number : (b : Bool) → 0 + cond b 1 0 ≡ from_bool b
as_number true = refl
as_number false = refl

module _ {I O W V D L : Type 0} (world : WorldOf W Call V D Reply) (named : NamedOf L)
    (remaining : I → Option (List ℕ)) (contents : O → Option (List ℕ)) where
  -- a session by a pass that had no receipt, in the history that the pass has seen
  pub is_session : (before after : I × O) (used new : CountedPass W L Call V D Reply world named) (front : List (Entry Call Reply))
      (result : Result ℕ SessionFault) → front ≡ front_of new → receipts (pass_of used) ≡ []
      → Ends ⊤ result (record { input = remaining before.0; input_left = remaining after.0; receipts = receipts (pass_of used); receipts_now = receipts (pass_of new); output = contents before.1; output_now = contents after.1 })
      → IsSession world named remaining contents front before result
  is_session before after used new front result same none e = record {
    after = after;
    pass = new;
    seen = subst (IsPrefix (front_of new)) (sym same) (begins_itself (front_of new));
    told = new.told;
    ends = subst (λ (rs : Receipts). Ends ⊤ result (record { input = remaining before.0; input_left = remaining after.0; receipts = rs; receipts_now = receipts (pass_of new); output = contents before.1; output_now = contents after.1 })) none e;
  }

  pub same_session : (before : I × O) (r s : Result ℕ SessionFault × List (Entry Call Reply)) → r ≡ s
      → IsSession world named remaining contents s.1 before s.0 → IsSession world named remaining contents r.1 before r.0
  same_session before r s same session = rw same session

  -- what has ended in a history has ended in a longer one
  pub ended_in_more : (short long : List (Entry Call Reply)) (connection : I × O) (ending : Ending) → IsPrefix short long
      → HasEnded world named remaining contents short connection ending → HasEnded world named remaining contents long connection ending
  ended_in_more short long connection refused longer has = tt
  ended_in_more short long connection (ended result) longer has = record {
    after = has.after;
    pass = has.pass;
    seen = begins_more (front_of has.pass) short long has.seen longer;
    told = has.told;
    ends = has.ends;
  }

  pub have_ended_in_more : (short long : List (Entry Call Reply)) (connections : List (I × O)) (n : ℕ) → IsPrefix short long
      → HaveEnded world named remaining contents short connections n → HaveEnded world named remaining contents long connections n
  have_ended_in_more short long connections n longer have = record {
    endings = have.endings;
    all = have.all;
    each = λ k e within. ended_in_more short long _ _ longer (have.each k e within);
    faulted = have.faulted;
  }

  pub none_ended : (history : List (Entry Call Reply)) → HaveEnded world named remaining contents history [] 0
  none_ended history = record { endings = []; all = refl; each = All-nil _; faulted = refl }

  -- one more has ended, and it faulted or not
  pub one_more_ended : (history : List (Entry Call Reply)) (connections : List (I × O)) (n more : ℕ) (connection : I × O) (b : Bool)
      → HaveEnded world named remaining contents history connections n → more ≡ from_bool b
      → ((ending : Ending) × HasEnded world named remaining contents history connection ending × (b ≡ is_faulted ending))
      → HaveEnded world named remaining contents history (connections ++ connection ∷ []) (n + more)
  one_more_ended history connections n more connection b have number (ending, has, same) =
      let e : (I × O) × Ending = (connection, ending) in
      record {
        endings = have.endings ++ e ∷ [];
        all = map-append (λ (x : (I × O) × Ending). x.0) have.endings (e ∷ []) ∙ ap (λ (l : List (I × O)). l ++ connection ∷ []) have.all;
        each = All-push (λ (x : (I × O) × Ending). HasEnded world named remaining contents history x.0 x.1) have.endings e have.each has;
        faulted = omega (arith, have.faulted, sum_by-append (λ (x : (I × O) × Ending). cond (is_faulted x.1) 1 0) have.endings (e ∷ []), as_number (is_faulted ending), number, ap from_bool same);
      }

  -- who serves in a history serves in a longer one
  pub serves_in_more : {E : Type 0} (short long : List (Entry Call Reply)) (coming : Option (List (I × O))) (result : Result Served E)
      → IsPrefix short long → IsLegal world.after world.reply world.opening long
      → IfOk result (Serves world named remaining contents short coming) → IfOk result (Serves world named remaining contents long coming)
  serves_in_more short long coming (Ok served) longer legal is = record {
    legal = legal;
    connections = is.connections;
    sessions = is.sessions;
    first = is.first;
    ended = have_ended_in_more short long is.connections served.faulted longer is.ended;
  }
  serves_in_more short long coming (Err fault) longer legal is = tt

  pub same_serves : {E : Type 0} (coming : Option (List (I × O))) (r s : Result Served E × List (Entry Call Reply)) → r ≡ s
      → IfOk s.0 (Serves world named remaining contents s.1 coming) → IfOk r.0 (Serves world named remaining contents r.1 coming)
  same_serves coming r s same is = rw same is

  pub serves_in_some : {E : Type 0} (history : List (Entry Call Reply)) (coming : Option (List (I × O))) (result : Result Served E)
      → IfOk result (Serves world named remaining contents history coming)
      → IfOk result (λ served. (h : List (Entry Call Reply)) × Serves world named remaining contents h coming served)
  serves_in_some history coming (Ok served) is = (history, is)
  serves_in_some history coming (Err fault) is = tt
