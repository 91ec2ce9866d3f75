-- a timer's ticks, one after the other
use Rattle.std.proofs.Common.{◌≡◌, ◌≤◌, ℕ, ◌+◌, List, [], ◌∷◌, ◌++◌, map, Bool, true, false, cond, refl, sym, ap, subst, ◌∙◌, append_assoc, arith}
use Rattle.std.proofs.lemmas.List.{map-append}
use Rattle.std.proofs.lemmas.List.Sums.{sum_by-append}
use Rattle.std.specs.Int.{from_bool}
use Rattle.casa_flight.specs.declared.call.Call.{Call}
use Rattle.casa_flight.specs.declared.call.Call.TheVariants.{Tick}
use Rattle.casa_flight.specs.declared.reply.Reply.{Reply}
use Rattle.casa_history.specs.declared.entry.Receipt.{Receipt}
use Rattle.casa_session.specs.Receipts.{Receipts}
use Rattle.std.specs.Prelude.{Option, Result, Ok, Err, IfOk}
use mathlib.Core.List.{IsPrefix}
use Rattle.casa_history.specs.declared.entry.Entry.{Entry}
use Rattle.casa_history.specs.Entries.{receipts}
use Rattle.casa_commit.specs.declared.world.World.{Ghosts as WorldOf}
use Rattle.casa_commit.specs.Legal.{IsLegal}
use Rattle.casa_front.specs.declared.rule.Named.{Ghosts as NamedOf}
use Rattle.casa_engine.specs.declared.pass.CountedPass.{CountedPass}
use Rattle.casa_engine.specs.Fronts.{front_of}
use Rattle.casa_engine.specs.Passes.{pass_of}
use Rattle.casa_engine.proofs.Seeing.{begins_itself, begins_more}
use Rattle.casa_server.specs.Ticks.{is_answered, count_accepted, TicksTo, Ticks, Ticked, IsTicked}

count_accepted-append : (xs : Receipts) (r : Receipt Call Reply) → count_accepted (xs ++ r ∷ []) ≡ count_accepted xs + count_accepted (r ∷ [])
count_accepted-append xs r = sum_by-append (λ (x : Receipt Call Reply). cond (is_answered x.entry.reply) 1 0) xs (r ∷ [])

as_number : (b : Bool) → 0 + cond b 1 0 ≡ from_bool b
as_number true = refl
as_number false = refl

-- an accepted call counts
counted : (r : Receipt Call Reply) (is_accepted : Bool) → is_accepted ≡ is_answered r.entry.reply → count_accepted (r ∷ []) ≡ from_bool is_accepted
counted r is_accepted e = as_number (is_answered r.entry.reply) ∙ ap from_bool (sym e)

pub at_most_one : (b : Bool) → from_bool b ≤ 1
at_most_one true = omega arith
at_most_one false = omega arith

-- one tick more
pub one_more : (a b c : Receipts) (moments : List ℕ) (n at : ℕ) (is_accepted : Bool) → Ticks a b moments n → TicksTo at b c is_accepted
    → Ticks a c (moments ++ at ∷ []) (n + from_bool is_accepted)
one_more a b c moments n at is_accepted ticks tick =
    let r = tick.receipt in
    record {
      receipts = ticks.receipts ++ r ∷ [];
      grows = tick.grows ∙ ap (λ (l : Receipts). l ++ r ∷ []) ticks.grows ∙ append_assoc a ticks.receipts (r ∷ []);
      called = map-append (λ (x : Receipt Call Reply). x.entry.call) ticks.receipts (r ∷ []) ∙ ap (λ (l : List Call). l ++ r.entry.call ∷ []) ticks.called
          ∙ ap (λ (x : Call). map Tick moments ++ x ∷ []) tick.called ∙ sym (map-append Tick moments (at ∷ []));
      accepted = omega (arith, count_accepted-append ticks.receipts r, ticks.accepted, counted r is_accepted tick.accepted);
    }

module _ {W V D L : Type 0} (world : WorldOf W Call V D Reply) (named : NamedOf L) where
  -- the ticks of a pass that had no receipt, in the history that the pass has seen
  pub is_ticked : {E : Type 0} (coming : Option (List ℕ)) (turns : ℕ) (before after : CountedPass W L Call V D Reply world named)
      (front : List (Entry Call Reply)) (result : Result ℕ E) → front ≡ front_of after → receipts (pass_of before) ≡ []
      → IfOk result (λ n. Ticked coming turns (receipts (pass_of before)) (receipts (pass_of after)) n)
      → IfOk result (IsTicked world named front coming turns)
  is_ticked coming turns before after front (Ok n) same none ticked = record {
    legal = subst (IsLegal world.after world.reply world.opening) (sym same) after.legal;
    pass = after;
    seen = subst (IsPrefix (front_of after)) (sym same) (begins_itself (front_of after));
    told = after.told;
    ticked = subst (λ (rs : Receipts). Ticked coming turns rs (receipts (pass_of after)) n) none ticked;
  }
  is_ticked coming turns before after front (Err e) same none ticked = tt

  -- the same in a longer history
  pub ticked_in_more : {E : Type 0} (short long : List (Entry Call Reply)) (coming : Option (List ℕ)) (turns : ℕ) (result : Result ℕ E)
      → IsPrefix short long → IsLegal world.after world.reply world.opening long
      → IfOk result (IsTicked world named short coming turns) → IfOk result (IsTicked world named long coming turns)
  ticked_in_more short long coming turns (Ok n) longer legal is = record {
    legal = legal;
    pass = is.pass;
    seen = begins_more (front_of is.pass) short long is.seen longer;
    told = is.told;
    ticked = is.ticked;
  }
  ticked_in_more short long coming turns (Err e) longer legal is = tt

  pub same_ticked : {E : Type 0} (coming : Option (List ℕ)) (turns : ℕ) (r s : Result ℕ E × List (Entry Call Reply)) → r ≡ s
      → IfOk s.0 (IsTicked world named s.1 coming turns) → IfOk r.0 (IsTicked world named r.1 coming turns)
  same_ticked coming turns r s same is = rw same is

  pub ticked_in_some : {E : Type 0} (history : List (Entry Call Reply)) (coming : Option (List ℕ)) (turns : ℕ) (result : Result ℕ E)
      → IfOk result (IsTicked world named history coming turns)
      → IfOk result (λ n. (h : List (Entry Call Reply)) × IsTicked world named h coming turns n)
  ticked_in_some history coming turns (Ok n) is = (history, is)
  ticked_in_some history coming turns (Err e) is = tt
