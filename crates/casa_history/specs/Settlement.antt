-- to believe: when a desk is settled
use Rattle.std.specs.Prelude.{◌≡◌, ◌⊎◌, ℕ, ◌<◌, ◌==◌, Bool, Option, None, Some, List, [], ◌∷◌, filter, map}
use Rattle.casa_history.specs.declared.entry.Entry.{Entry}
use Rattle.casa_history.specs.declared.entry.Receipt.{Receipt}
use Rattle.casa_history.specs.declared.pass.Pass.{Pass}
use Rattle.casa_history.specs.Entries.{receipts, receipts_of, desk_of}

-- whether a pass is a desk's
abbrev pub is_pass_of : {C R : Type 0} → ℕ → Pass C R → Bool
is_pass_of d p = desk_of p == d

-- the receipts of each pass of a desk
abbrev pub passes_of : {C R : Type 0} → ℕ → List (Pass C R) → List (List (Receipt C R))
passes_of d ps = map receipts (filter (is_pass_of d) ps)

-- a desk is settled: it has one pass, and this has a receipt of each of its entries; or it has neither pass nor entry
abbrev pub IsSettled : {C R : Type 0} → ℕ → List (Entry C R) → List (Pass C R) → Type 0
IsSettled d es ps =
    (passes_of d ps ≡ receipts_of d es ∷ []) ⊎ ((passes_of d ps ≡ []) × (receipts_of d es ≡ []))

-- inner: a desk comes before the torn one, or there is no torn one
abbrev pub Precedes : ℕ → Option ℕ → Type 0
Precedes d None = Unit {0}
Precedes d (Some torn) = d < torn
