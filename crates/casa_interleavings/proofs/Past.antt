-- what workers hold was taken after a history with which the present one begins
use Rattle.std.proofs.Common.{ℕ, ◌+◌, nat_lt, true, false, Bool, if◌then◌else◌, List, [], ◌∷◌, ◌++◌, length, sym, subst, refl, inl, inr}
use Rattle.casa_history.specs.declared.entry.Entry.{Entry}
use Rattle.casa_commit.specs.Legal.{entry}
use Rattle.casa_day.specs.Journals.{Grows}
use Rattle.casa_day.proofs.Lists.{grows_not, grows_on}
use Rattle.casa_interleavings.specs.declared.event.Event.{Event}
use Rattle.casa_interleavings.specs.declared.event.Event.TheVariants.{Read, Compute, Commit, Abandon}
use Rattle.casa_interleavings.specs.declared.event.Outcome.TheVariants.{Accepted, Refused}
use Rattle.casa_interleavings.specs.Scenes.{Hand, nothing, view, answer, Worker, Scene, most_workers, with_worker, with_hand, read, compute, worker_after, Commits, Happens, Leads}
use Rattle.casa_interleavings.specs.Past.{HandBegins, AllBegin}
use Rattle.casa_interleavings.proofs.Workers.{each_worker}

module _ {C R : Type 0} where
  -- what is of the past stays so when the history grows
  hand_grows : (es fs : List (Entry C R)) (hand : Hand C R) → Grows es fs → HandBegins es hand → HandBegins fs hand
  hand_grows es fs nothing grown begins = begins
  hand_grows es fs (view c before) grown begins = grows_on before es fs begins grown
  hand_grows es fs (answer c before) grown begins = grows_on before es fs begins grown

  read_begins : (c : C) (es : List (Entry C R)) (hand : Hand C R) → HandBegins es hand → HandBegins es (read c es hand)
  read_begins c es nothing begins = grows_not es
  read_begins c es hand begins = begins

  compute_begins : (es : List (Entry C R)) (hand : Hand C R) → HandBegins es hand → HandBegins es (compute hand)
  compute_begins es nothing begins = begins
  compute_begins es hand begins = begins

  -- with a worker whose view is of the past, all views are
  with_begins : (w : ℕ) (x : Worker C R) (m : Scene C R) → AllBegin m → HandBegins m.history x.hand
      → AllBegin (with_worker w x m)
  with_begins w x m all begins v =
      each_worker (λ (k : ℕ) (y : Worker C R). HandBegins m.history y.hand) w x m begins (λ k other. all k) v

-- all views go on being of the past
module _ {C R : Type 0} (reply : List (Entry C R) → C → R)
    (IsUnmoved : List (Entry C R) → C → List (Entry C R) → Type 0) where
  commits_begin : (w : ℕ) (hand : Hand C R) (m n : Scene C R) → AllBegin m → Commits reply IsUnmoved w hand m n → AllBegin n
  commits_begin w nothing m n all is = subst AllBegin (sym is) all
  commits_begin w (view c before) m n all is = subst AllBegin (sym is) all
  commits_begin w (answer c before) m n all (inl stays) =
      let e : Entry C R = entry w c (reply before c) in
      let longer : Scene C R = record m { history = m.history ++ e ∷ [] } in
      let grown : AllBegin longer = λ v. hand_grows m.history longer.history (m.workers v).hand (e ∷ [], refl) (all v) in
      subst AllBegin (sym stays.1) (with_begins w (worker_after (Accepted (length m.history + 1))) longer grown tt)
  commits_begin w (answer c before) m n all (inr moved) =
      subst AllBegin (sym moved.1) (with_begins w (worker_after Refused) m all tt)

  happens_begin : (e : Event C) (m n : Scene C R) → AllBegin m → Happens reply IsUnmoved e m n → AllBegin n
  happens_begin (Read w c) m n all is =
      let x : Worker C R = m.workers w in
      let next : Scene C R = with_worker w (with_hand (read c m.history x.hand) x) m in
      let by : (b : Bool) → AllBegin (if b then next else m) =
      elim [
        | true ↦ with_begins w (with_hand (read c m.history x.hand) x) m all (read_begins c m.history x.hand (all w))
        | false ↦ all
      ] in
      subst AllBegin (sym is) (by (nat_lt w most_workers))
  happens_begin (Compute w) m n all is =
      let x : Worker C R = m.workers w in
      subst AllBegin (sym is) (with_begins w (with_hand (compute x.hand) x) m all (compute_begins m.history x.hand (all w)))
  happens_begin (Commit w) m n all is = commits_begin w (m.workers w).hand m n all is
  happens_begin (Abandon w) m n all is =
      subst AllBegin (sym is) (with_begins w (with_hand nothing (m.workers w)) m all tt)

  -- each view of each scene is of the past
  pub leads_begin : (es : List (Event C)) (m n : Scene C R) → AllBegin m → Leads reply IsUnmoved es m n → AllBegin n
  leads_begin [] m n all is = subst AllBegin (sym is) all
  leads_begin (e ∷ es) m n all leads = leads_begin es leads.0 n (happens_begin e m leads.0 all leads.1) leads.2
