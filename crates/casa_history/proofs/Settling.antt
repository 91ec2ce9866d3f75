use Rattle.std.proofs.Common.{◌≡◌, ◌≢◌, ℕ, zero, suc, ◌+◌, ◌<◌, ◌⊎◌, inl, inr, true, false, ◌==◌, Option, List, [], ◌∷◌, length, get_or, drop, map, filter, All, Contains, refl, sym, ap, subst, ◌∙◌, arith}
use Rattle.std.proofs.lemmas.Bool.{cases_eq}
use Rattle.std.proofs.lemmas.Bool.Decides.{nat_tests}
use Rattle.std.proofs.lemmas.List.{nil_from_length, get_or-map, length-map}
use Rattle.std.proofs.lemmas.List.Elements.{All-contains}
use Rattle.casa_history.specs.declared.entry.Entry.{Entry}
use Rattle.casa_history.specs.declared.entry.Receipt.{Receipt}
use Rattle.casa_history.specs.declared.pass.Pass.{Pass}
use Rattle.casa_history.specs.Entries.{receipts, receipts_from, is_of_desk, receipts_of}
use Rattle.casa_history.specs.Settlement.{passes_of, IsSettled, Precedes}

-- the desk's receipts among the entries from index k on
abbrev pub left_of : {C R : Type 0} → ℕ → ℕ → List (Entry C R) → List (Receipt C R)
left_of d k es = filter (is_of_desk d) (receipts_from (k + 1) (drop k es))

-- one more pass of the desk
passes_of-same : {C R : Type 0} → (d : ℕ) (p : Pass C R) (ps : List (Pass C R)) → p.desk ≡ d
    → passes_of d (p ∷ ps) ≡ receipts p ∷ passes_of d ps
passes_of-same d p ps is =
    let same : (p.desk == d) ≡ true = grind (arith, nat_tests) in
    rw same

-- one more pass of another desk
passes_of-other : {C R : Type 0} → (d : ℕ) (p : Pass C R) (ps : List (Pass C R)) → p.desk ≢ d
    → passes_of d (p ∷ ps) ≡ passes_of d ps
passes_of-other d p ps is =
    let other : (p.desk == d) ≡ false = grind (arith, nat_tests) in
    rw other

-- a desk with a pass among these has one at least
pub passes_of_some : {C R : Type 0} → (d : ℕ) (ps : List (Pass C R)) (p : Pass C R) → Contains ps p → p.desk ≡ d
    → passes_of d ps ≢ []
passes_of_some d [] p (k, h, is) of none = absurd (omega arith)
passes_of_some {C} {R} d (q ∷ ps) p (zero, h, is) of none =
    let same = passes_of-same d q ps (ap (λ (x : Pass C R). x.desk) is ∙ of) in
    cc
passes_of_some {C} {R} d (q ∷ ps) p (suc k, h, is) of none =
    elim (cases_eq q.desk d) [
      | inl same ↦ let first = passes_of-same d q ps same in cc
      | inr other ↦
          passes_of_some d ps p (k, omega arith, is) of (sym (passes_of-other d q ps other) ∙ none)
    ]

-- where a desk has one pass, this is it
pub passes_of_sole : {C R : Type 0} → (d : ℕ) (ps : List (Pass C R)) (p : Pass C R) → Contains ps p → p.desk ≡ d
    → length (passes_of d ps) ≡ 1 → passes_of d ps ≡ receipts p ∷ []
passes_of_sole d [] p (k, h, is) of one = absurd (omega arith)
passes_of_sole {C} {R} d (q ∷ ps) p (zero, h, is) of one =
    let same = passes_of-same d q ps (ap (λ (x : Pass C R). x.desk) is ∙ of) in
    let count = ap length (sym same) ∙ one in
    let rest = nil_from_length (passes_of d ps) (omega (arith, count)) in
    let here = ap receipts is in
    cc
passes_of_sole {C} {R} d (q ∷ ps) p (suc k, h, is) of one =
    elim (cases_eq q.desk d) [
      | inl same ↦
          let first = passes_of-same d q ps same in
          let count = ap length (sym first) ∙ one in
          let rest = nil_from_length (passes_of d ps) (omega (arith, count)) in
          absurd (passes_of_some d ps p (k, omega arith, is) of rest)
      | inr other ↦
          let skip = passes_of-other d q ps other in
          skip ∙ passes_of_sole d ps p (k, omega arith, is) of (ap length (sym skip) ∙ one)
    ]

-- a desk has no pass among these, or there is one
pass_among : {C R : Type 0} → (d : ℕ) (ps : List (Pass C R))
    → (passes_of d ps ≡ []) ⊎ ((p : Pass C R) × Contains ps p × (p.desk ≡ d))
pass_among d [] = inl refl
pass_among {C} {R} d (q ∷ ps) =
    elim (cases_eq q.desk d) [
      | inl same ↦ inr (q, (0, omega arith, refl), same)
      | inr other ↦ elim (pass_among {C = C} {R = R} d ps) [
        | inl none ↦ inl (passes_of-other d q ps other ∙ none)
        | inr (p, (k, h, is), of) ↦ inr (p, (suc k, omega arith, is), of)
      ]
    ]

-- a desk has no entry among these, or there is one
entry_among : {C R : Type 0} → (d n : ℕ) (es : List (Entry C R))
    → (filter (is_of_desk d) (receipts_from n es) ≡ []) ⊎ ((e : Entry C R) × Contains es e × (e.desk ≡ d))
entry_among d n [] = inl refl
entry_among {C} {R} d n (f ∷ es) =
    elim (cases_eq f.desk d) [
      | inl same ↦ inr (f, (0, omega arith, refl), same)
      | inr other ↦ elim (entry_among {C = C} {R = R} d (n + 1) es) [
        | inl none ↦
            let skip : (f.desk == d) ≡ false = grind (arith, nat_tests) in
            inl (rw skip none)
        | inr (e, (k, h, is), of) ↦ inr (e, (suc k, omega arith, is), of)
      ]
    ]

-- a desk with an entry among these has a receipt at least
pub receipts_of-some : {C R : Type 0} → (d n : ℕ) (es : List (Entry C R)) (e : Entry C R) → Contains es e → e.desk ≡ d
    → filter (is_of_desk d) (receipts_from n es) ≢ []
receipts_of-some d n [] e (k, h, is) of none = absurd (omega arith)
receipts_of-some {C} {R} d n (f ∷ es) e (zero, h, is) of none =
    let desk : f.desk ≡ d = ap (λ (x : Entry C R). x.desk) is ∙ of in
    let same : (f.desk == d) ≡ true = grind (arith, nat_tests) in
    let some = rw same at none in
    cc
receipts_of-some {C} {R} d n (f ∷ es) e (suc k, h, is) of none =
    elim (cases_eq f.desk d) [
      | inl desk ↦
          let same : (f.desk == d) ≡ true = grind (arith, nat_tests) in
          let some = rw same at none in
          cc
      | inr other ↦
          let skip : (f.desk == d) ≡ false = grind (arith, nat_tests) in
          receipts_of-some d (n + 1) es e (k, omega arith, is) of (rw skip at none)
    ]

-- what is settled among the desks that have a pass, and among those that have an entry, is settled everywhere
pub settled_before : {C R : Type 0} → (es : List (Entry C R)) (ps : List (Pass C R)) (t u : Option ℕ)
    → All (λ p. Precedes p.desk t → IsSettled p.desk es ps) ps
    → All (λ e. Precedes e.desk u → passes_of e.desk ps ≢ []) es
    → (d : ℕ) → Precedes d t → Precedes d u → IsSettled d es ps
settled_before {C} {R} es ps t u passes calls d before_t before_u =
    elim (pass_among {C = C} {R = R} d ps) [
      | inr (p, among, of) ↦
          let settled = All-contains (λ (p : Pass C R). Precedes p.desk t → IsSettled p.desk es ps) ps p passes among in
          let here : Precedes p.desk t = subst (λ (k : ℕ). Precedes k t) (sym of) before_t in
          subst (λ (k : ℕ). IsSettled k es ps) of (settled here)
      | inl none ↦ elim (entry_among {C = C} {R = R} d 1 es) [
        | inl silent ↦ inr (none, silent)
        | inr (e, among, of) ↦
            let held =
            All-contains (λ (e : Entry C R). Precedes e.desk u → passes_of e.desk ps ≢ []) es e calls among in
            let here : Precedes e.desk u = subst (λ (k : ℕ). Precedes k u) (sym of) before_u in
            absurd (held here (ap (λ (k : ℕ). passes_of k ps) of ∙ none))
      ]
    ]

-- a desk with an entry and no pass is not settled
pub torn_without_pass : {C R : Type 0} → (d : ℕ) (es : List (Entry C R)) (ps : List (Pass C R)) (e : Entry C R)
    → Contains es e → e.desk ≡ d → (passes_of d ps ≢ [] → ⊥) → IsSettled d es ps → ⊥
torn_without_pass d es ps e among of none (inl one) = none (λ zero_passes. let clash = sym one ∙ zero_passes in cc)
torn_without_pass d es ps e among of none (inr (zero_passes, silent)) = receipts_of-some d 1 es e among of silent

-- a desk whose one pass has the receipts of its entries is settled
pub settled_by_sole : {C R : Type 0} → (d : ℕ) (es : List (Entry C R)) (ps : List (Pass C R)) (p : Pass C R)
    → Contains ps p → p.desk ≡ d → length (passes_of d ps) ≡ 1 → receipts p ≡ receipts_of d es → IsSettled d es ps
settled_by_sole {C} {R} d es ps p among of one same =
    inl (passes_of_sole d ps p among of one ∙ ap (λ (rs : List (Receipt C R)). rs ∷ []) same)

-- a settled desk with a pass has no other, and this has the receipts of its entries
pub sole_of_settled : {C R : Type 0} → (d : ℕ) (es : List (Entry C R)) (ps : List (Pass C R)) (p : Pass C R)
    → Contains ps p → p.desk ≡ d → IsSettled d es ps → (length (passes_of d ps) ≡ 1) × (receipts p ≡ receipts_of d es)
sole_of_settled {C} {R} d es ps p among of (inl is) =
    let one : length (passes_of d ps) ≡ 1 = ap length is in
    let sole : passes_of d ps ≡ receipts p ∷ [] = passes_of_sole d ps p among of one in
    let same : receipts p ∷ [] ≡ receipts_of d es ∷ [] = sym sole ∙ is in
    (one, cc)
sole_of_settled d es ps p among of (inr (none, silent)) = absurd (passes_of_some d ps p among of none)

-- the element at an index, among the elements that a list is mapped to
pub contains_mapped : {X Y : Type 0} → (f : X → Y) (xs : List X) (k : ℕ) (x : X) → k < length xs → x ≡ get_or xs k x
    → Contains (map f xs) (f x)
contains_mapped f xs k x within is =
    (k, subst (λ (n : ℕ). k < n) (sym (length-map xs f)) within, get_or-map f xs k x (f x) within ∙ ap f (sym is))
