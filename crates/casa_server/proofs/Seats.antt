-- seats, and the connections that they answer
use Rattle.std.proofs.Common.{◌≡◌, ◌≤◌, ℕ, ◌+◌, List, [], ◌∷◌, ◌++◌, map, length, take, Bool, true, false, cond, Option, None, Some, IfSome, refl, sym, ap, subst, ◌∙◌, append-nil, arith}
use Rattle.std.specs.Prelude.{is_err, IfNone}
use Rattle.std.specs.List.{count_by}
use Rattle.std.specs.Int.{from_bool}
use Rattle.std.proofs.lemmas.List.{length-map, take-map, take_all}
use Rattle.std.proofs.lemmas.List.Sums.{sum_by-append}
use Rattle.std.proofs.Math.Seq.{take-append_seam}
use mathlib.Core.List.{IsPrefix}
use Rattle.casa_flight.specs.declared.call.Call.{Call}
use Rattle.casa_flight.specs.declared.reply.Reply.{Reply}
use Rattle.casa_history.specs.declared.entry.Entry.{Entry}
use Rattle.casa_history.specs.Entries.{receipts}
use Rattle.casa_commit.specs.declared.world.World.{Ghosts as WorldOf}
use Rattle.casa_commit.specs.Legal.{IsLegal}
use Rattle.casa_front.specs.declared.rule.Named.{Ghosts as NamedOf}
use Rattle.casa_engine.specs.declared.pass.CountedPass.{CountedPass}
use Rattle.casa_engine.specs.Fronts.{front_of}
use Rattle.casa_engine.specs.Passes.{pass_of}
use Rattle.casa_engine.proofs.Seeing.{begins_itself, begins_more}
use Rattle.casa_session.specs.Receipts.{Receipts}
use Rattle.casa_server.specs.declared.seat.Sat.{Sat}
use Rattle.casa_server.specs.declared.staying.Stayed.{Stayed}
use Rattle.casa_server.specs.Seats.{most_connections, Visit, connections_in, Answers, AnswersInTurn, HasSat, HasStayed, HaveSat}
use Rattle.casa_server.specs.Sources.{Gives, IsExhausted}

as_number : (b : Bool) → 0 + cond b 1 0 ≡ from_bool b
as_number true = refl
as_number false = refl

-- how many of the visits had a fault
abbrev pub count_faulted : {I O : Type 0} → List (Visit I O) → ℕ
count_faulted {I} {O} visits = count_by (λ (v : Visit I O). is_err v.1) visits

pub one_more_counted : {I O : Type 0} (visits : List (Visit I O)) (visit : Visit I O) (n more : ℕ) (b : Bool) → n ≡ count_faulted visits → b ≡ is_err visit.1
    → more ≡ from_bool b → n + more ≡ count_faulted (visits ++ visit ∷ [])
one_more_counted {I} {O} visits visit n more b counted same number =
    omega (arith, counted, number, sum_by-append (λ (v : Visit I O). cond (is_err v.1) 1 0) visits (visit ∷ []), as_number (is_err visit.1), ap from_bool same)

pub as_many_if_none : {F : Type 0} (fault : Option F) (sats seated sources comings : ℕ) → sats ≡ seated → comings ≡ sources → IfNone fault (seated ≡ sources) → IfNone fault (sats ≡ comings)
as_many_if_none None sats seated sources comings same known all = same ∙ all ∙ sym known
as_many_if_none (Some f) sats seated sources comings same known all = tt

-- seats begun with the first of some sources, in their order
pub first_seats : {X Y : Type 0} (f : Y → X) (seats : List Y) (past rest all : List X) → past ++ rest ≡ all → map f seats ≡ past → map f seats ≡ take (length seats) all
first_seats f seats past rest all whole same =
    let many : length past ≡ length seats = sym (ap length same) ∙ length-map seats f in
    same ∙ sym (ap (λ l. take (length seats) l) (sym whole) ∙ ap (λ n. take n (past ++ rest)) (sym many) ∙ take-append_seam past rest)

-- who has taken all that a source gave, n at most, has taken the first n
pub all_of_source : {X : Type 0} (a b : Option (List X)) (xs : List X) (n : ℕ) → length xs ≤ n → Gives a b xs → IsExhausted b → IfSome a (λ all. xs ≡ take n all)
all_of_source None b xs n most gives none = tt
all_of_source (Some all) None xs n most gives none = absurd gives
all_of_source (Some all) (Some left) xs n most gives none =
    let whole : all ≡ xs = gives ∙ ap (λ l. xs ++ l) none ∙ append-nil xs in
    sym (ap (λ l. take n l) whole ∙ take_all n xs most)

module _ {I O : Type 0} (remaining : I → Option (List ℕ)) (contents : O → Option (List ℕ)) where
  -- a desk has answered a connection more
  pub answers_one_more : (a b c : Receipts) (visits : List (Visit I O)) (visit : Visit I O) → AnswersInTurn remaining contents a b visits
      → Answers remaining contents b c visit → AnswersInTurn remaining contents a c (visits ++ visit ∷ [])
  answers_one_more a b c [] visit same one = (c, subst (λ (r : Receipts). Answers remaining contents r c visit) same one, refl)
  answers_one_more a b c (v ∷ vs) visit (between, first, others) one = (between, first, answers_one_more between b c vs visit others one)

module _ {I O W V D L : Type 0} (world : WorldOf W Call V D Reply) (named : NamedOf L)
    (remaining : I → Option (List ℕ)) (contents : O → Option (List ℕ)) where
  -- a seat has sat, in the history that its pass has seen
  pub has_sat : (coming : Option (List (I × O))) (visits : List (Visit I O)) (pass : CountedPass W L Call V D Reply world named) (front : List (Entry Call Reply)) (sat : Sat)
      → front ≡ front_of pass → IfSome coming (λ all. connections_in visits ≡ take most_connections all) → AnswersInTurn remaining contents [] (receipts (pass_of pass)) visits
      → sat.sessions ≡ length visits → sat.faulted ≡ count_faulted visits → HasSat world named remaining contents front coming sat
  has_sat coming visits pass front sat same all answered sessions faulted = record {
    pass = pass;
    seen = subst (IsPrefix (front_of pass)) (sym same) (begins_itself (front_of pass));
    told = pass.told;
    visits = visits;
    all = all;
    answered = answered;
    sessions = sessions;
    faulted = faulted;
  }

  pub same_sat : (coming : Option (List (I × O))) (r s : Sat × List (Entry Call Reply)) → r ≡ s
      → HasSat world named remaining contents s.1 coming s.0 → HasSat world named remaining contents r.1 coming r.0
  same_sat coming r s same has = rw same has

  -- who has sat in a history has sat in a longer one
  pub sat_in_more : (short long : List (Entry Call Reply)) (coming : Option (List (I × O))) (sat : Sat) → IsPrefix short long
      → HasSat world named remaining contents short coming sat → HasSat world named remaining contents long coming sat
  sat_in_more short long coming sat longer has = record {
    pass = has.pass;
    seen = begins_more (front_of has.pass) short long has.seen longer;
    told = has.told;
    visits = has.visits;
    all = has.all;
    answered = has.answered;
    sessions = has.sessions;
    faulted = has.faulted;
  }

  pub all_sat_in_more : (short long : List (Entry Call Reply)) (comings : List (Option (List (I × O)))) (sats : List Sat) → IsPrefix short long
      → HaveSat world named remaining contents short comings sats → HaveSat world named remaining contents long comings sats
  all_sat_in_more short long [] [] longer have = tt
  all_sat_in_more short long [] (s ∷ ss) longer have = absurd have
  all_sat_in_more short long (c ∷ cs) [] longer have = absurd have
  all_sat_in_more short long (c ∷ cs) (s ∷ ss) longer (first, others) = (sat_in_more short long c s longer first, all_sat_in_more short long cs ss longer others)

  -- a seat more
  pub one_more_sat : (history : List (Entry Call Reply)) (comings : List (Option (List (I × O)))) (sats : List Sat) (coming : Option (List (I × O))) (sat : Sat)
      → HaveSat world named remaining contents history comings sats → HasSat world named remaining contents history coming sat
      → HaveSat world named remaining contents history (comings ++ coming ∷ []) (sats ++ sat ∷ [])
  one_more_sat history [] [] coming sat have has = (has, tt)
  one_more_sat history [] (s ∷ ss) coming sat have has = absurd have
  one_more_sat history (c ∷ cs) [] coming sat have has = absurd have
  one_more_sat history (c ∷ cs) (s ∷ ss) coming sat (first, others) has = (first, one_more_sat history cs ss coming sat others has)

  pub as_many_seats : (history : List (Entry Call Reply)) (comings : List (Option (List (I × O)))) (sats : List Sat)
      → HaveSat world named remaining contents history comings sats → length sats ≡ length comings
  as_many_seats history [] [] have = refl
  as_many_seats history [] (s ∷ ss) have = absurd have
  as_many_seats history (c ∷ cs) [] have = absurd have
  as_many_seats history (c ∷ cs) (s ∷ ss) (first, others) = omega (arith, as_many_seats history cs ss others)

  -- a server has stayed with seats of the first of its sources, and of all of them unless a fault says why not
  pub stayed : {S : Type 0} (coming : S → Option (List (I × O))) (history : List (Entry Call Reply)) (seated sources : List S) (now : Stayed)
      → IsLegal world.after world.reply world.opening history
      → seated ≡ take (length seated) sources → IfNone now.fault (length seated ≡ length sources)
      → HaveSat world named remaining contents history (map coming seated) now.sats.items
      → HasStayed world named remaining contents history (map coming sources) now
  stayed coming history seated sources now legal first all have =
      let many : length now.sats.items ≡ length seated = as_many_seats history (map coming seated) now.sats.items have ∙ length-map seated coming in
      let same : map coming seated ≡ take (length now.sats.items) (map coming sources) =
      ap (λ l. map coming l) (first ∙ ap (λ n. take n sources) (sym many)) ∙ sym (take-map coming (length now.sats.items) sources) in
      record {
        legal = legal;
        seats = subst (λ cs. HaveSat world named remaining contents history cs now.sats.items) same have;
        all = as_many_if_none now.fault (length now.sats.items) (length seated) (length sources) (length (map coming sources)) many (length-map sources coming) all;
      }

  pub stayed_in_more : (short long : List (Entry Call Reply)) (comings : List (Option (List (I × O)))) (now : Stayed) → IsPrefix short long
      → IsLegal world.after world.reply world.opening long
      → HasStayed world named remaining contents short comings now → HasStayed world named remaining contents long comings now
  stayed_in_more short long comings now longer legal has = record {
    legal = legal;
    seats = all_sat_in_more short long (take (length now.sats.items) comings) now.sats.items longer has.seats;
    all = has.all;
  }

  pub same_stayed : (comings : List (Option (List (I × O)))) (r s : Stayed × List (Entry Call Reply)) → r ≡ s
      → HasStayed world named remaining contents s.1 comings s.0 → HasStayed world named remaining contents r.1 comings r.0
  same_stayed comings r s same has = rw same has
