-- one scene comes of a list of events
use Rattle.std.proofs.Common.{◌≡◌, ℕ, List, [], ◌∷◌, sym, subst, ◌∙◌, inl, inr}
use Rattle.casa_history.specs.declared.entry.Entry.{Entry}
use Rattle.casa_interleavings.specs.declared.event.Event.{Event}
use Rattle.casa_interleavings.specs.declared.event.Event.TheVariants.{Read, Compute, Commit, Abandon}
use Rattle.casa_interleavings.specs.Scenes.{Hand, nothing, view, answer, Scene, Commits, Happens, Leads}

module _ {C R : Type 0} (reply : List (Entry C R) → C → R)
    (IsUnmoved : List (Entry C R) → C → List (Entry C R) → Type 0) where
  -- what is refused is not accepted, so one scene comes of a commit
  commits_one : (w : ℕ) (hand : Hand C R) (m n k : Scene C R) → Commits reply IsUnmoved w hand m n
      → Commits reply IsUnmoved w hand m k → n ≡ k
  commits_one w nothing m n k is also = is ∙ sym also
  commits_one w (view c before) m n k is also = is ∙ sym also
  commits_one w (answer c before) m n k (inl stays) (inl also) = stays.1 ∙ sym also.1
  commits_one w (answer c before) m n k (inl stays) (inr moved) = absurd (moved.0 stays.0)
  commits_one w (answer c before) m n k (inr moved) (inl stays) = absurd (moved.0 stays.0)
  commits_one w (answer c before) m n k (inr moved) (inr also) = moved.1 ∙ sym also.1

  happens_one : (e : Event C) (m n k : Scene C R) → Happens reply IsUnmoved e m n → Happens reply IsUnmoved e m k → n ≡ k
  happens_one (Read w c) m n k is also = is ∙ sym also
  happens_one (Compute w) m n k is also = is ∙ sym also
  happens_one (Commit w) m n k is also = commits_one w (m.workers w).hand m n k is also
  happens_one (Abandon w) m n k is also = is ∙ sym also

  pub leads_one : (es : List (Event C)) (m n k : Scene C R) → Leads reply IsUnmoved es m n
      → Leads reply IsUnmoved es m k → n ≡ k
  leads_one [] m n k is also = is ∙ sym also
  leads_one (e ∷ es) m n k leads also =
      leads_one es leads.0 n k leads.2
      (subst (λ (x : Scene C R). Leads reply IsUnmoved es x k) (sym (happens_one e m leads.0 also.0 leads.1 also.1)) also.2)
