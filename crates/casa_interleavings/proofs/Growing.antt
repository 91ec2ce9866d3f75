-- a history only grows
use Rattle.std.proofs.Common.{◌≡◌, ℕ, nat_lt, Bool, true, false, if◌then◌else◌, List, [], ◌∷◌, ◌++◌, sym, ap, subst, refl, inl, inr}
use Rattle.casa_history.specs.declared.entry.Entry.{Entry}
use Rattle.casa_commit.specs.Legal.{entry}
use Rattle.casa_day.specs.Journals.{Grows}
use Rattle.casa_day.proofs.Lists.{grows_not, grows_on}
use Rattle.casa_interleavings.specs.declared.event.Event.{Event}
use Rattle.casa_interleavings.specs.declared.event.Event.TheVariants.{Read, Compute, Commit, Abandon}
use Rattle.casa_interleavings.specs.Scenes.{Hand, nothing, view, answer, Scene, most_workers, with_worker, with_hand, read, Commits, Happens, Leads}
use Rattle.casa_interleavings.proofs.One.{leads_one}

module _ {C R : Type 0} (reply : List (Entry C R) → C → R)
    (IsUnmoved : List (Entry C R) → C → List (Entry C R) → Type 0) where
  same_grows : {m n : Scene C R} → n ≡ m → Grows m.history n.history
  same_grows {m} is = subst (λ (k : Scene C R). Grows m.history k.history) (sym is) (grows_not m.history)

  commits_grow : (w : ℕ) (hand : Hand C R) (m n : Scene C R) → Commits reply IsUnmoved w hand m n
      → Grows m.history n.history
  commits_grow w nothing m n is = same_grows is
  commits_grow w (view c before) m n is = same_grows is
  commits_grow w (answer c before) m n (inl stays) =
      (entry w c (reply before c) ∷ [], ap (λ (k : Scene C R). k.history) stays.1)
  commits_grow w (answer c before) m n (inr moved) = same_grows moved.1

  happens_grow : (e : Event C) (m n : Scene C R) → Happens reply IsUnmoved e m n → Grows m.history n.history
  happens_grow (Read w c) m n is = by (nat_lt w most_workers) is
    where
      by : (b : Bool) → n ≡ (if b then with_worker w (with_hand (read c m.history (m.workers w).hand) (m.workers w)) m else m)
          → Grows m.history n.history
      by true is = same_grows is
      by false is = same_grows is
  happens_grow (Compute w) m n is = same_grows is
  happens_grow (Commit w) m n is = commits_grow w (m.workers w).hand m n is
  happens_grow (Abandon w) m n is = same_grows is

  leads_grow : (es : List (Event C)) (m n : Scene C R) → Leads reply IsUnmoved es m n → Grows m.history n.history
  leads_grow [] m n is = same_grows is
  leads_grow (e ∷ es) m n leads =
      grows_on m.history leads.0.history n.history (happens_grow e m leads.0 leads.1) (leads_grow es leads.0 n leads.2)

  -- between the first events and the others there is a scene
  pub leads_split : (es fs : List (Event C)) (m n : Scene C R) → Leads reply IsUnmoved (es ++ fs) m n
      → (k : Scene C R) × Leads reply IsUnmoved es m k × Leads reply IsUnmoved fs k n
  leads_split [] fs m n leads = (m, refl, leads)
  leads_split (e ∷ es) fs m n leads =
      let rest = leads_split es fs leads.0 n leads.2 in
      (rest.0, (leads.0, leads.1, rest.1), rest.2)

  -- from the scene of the first events the others lead on
  pub leads_rest : (es fs : List (Event C)) (m k n : Scene C R) → Leads reply IsUnmoved es m k
      → Leads reply IsUnmoved (es ++ fs) m n → Leads reply IsUnmoved fs k n
  leads_rest es fs m k n first all =
      let split = leads_split es fs m n all in
      subst (λ (x : Scene C R). Leads reply IsUnmoved fs x n) (leads_one reply IsUnmoved es m split.0 k split.1 first) split.2

  -- and the history grows from there
  pub rest_grows : (es fs : List (Event C)) (m k n : Scene C R) → Leads reply IsUnmoved es m k
      → Leads reply IsUnmoved (es ++ fs) m n → Grows k.history n.history
  rest_grows es fs m k n first all = leads_grow fs k n (leads_rest es fs m k n first all)
