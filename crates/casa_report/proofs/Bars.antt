-- no bar is too long
use Rattle.std.proofs.Common.{◌≡◌, ℕ, zero, suc, ◌+◌, ◌*◌, ◌/◌, ◌%◌, ◌<◌, ◌≤◌, sym, subst, max, min, List, [], ◌∷◌, length, get_or, arith}
use Rattle.std.specs.Prelude.{fold}
use Rattle.std.specs.Int.{div_ceil}
use Rattle.std.proofs.Math.Nat.{div-add-mod, mod-lt}
use Rattle.casa_inquiry.specs.declared.load.Step.{Step}
use Rattle.casa_report.specs.LoadTable.{IsShort, each_of, greatest, longest_bar}

abbrev greater : ℕ → Step → ℕ
greater n s = max n (max s.planned (max s.slots s.calculated))

first_part : (n m f : ℕ) → max n m ≤ f → n ≤ f
first_part n m f h = omega arith

second_part : (n m f : ℕ) → max n m ≤ f → m ≤ f
second_part n m f h = omega arith

fold_up : (ss : List Step) (n : ℕ) → n ≤ fold greater n ss
fold_up [] n = omega arith
fold_up (s ∷ ss) n = first_part n (max s.planned (max s.slots s.calculated)) (fold greater n (s ∷ ss)) (fold_up ss (greater n s))

within : (ss : List Step) (n i : ℕ) (s : Step) → i < length ss → s ≡ get_or ss i s → max s.planned (max s.slots s.calculated) ≤ fold greater n ss
within [] n i s lt is = absurd (omega arith)
within (t ∷ ss) n zero s lt is =
    subst (λ (u : Step). max u.planned (max u.slots u.calculated) ≤ fold greater n (t ∷ ss)) (sym is)
    (second_part n (max t.planned (max t.slots t.calculated)) (fold greater n (t ∷ ss)) (fold_up ss (greater n t)))
within (t ∷ ss) n (suc i) s lt is = within ss (greater n t) i s (omega arith) is

enough : (g : ℕ) → g ≤ longest_bar * max 1 (div_ceil g longest_bar)
enough g = parts (g / 44) (g % 44) g (div-add-mod g 44) (mod-lt g (omega arith))
  where
    parts : (q r g : ℕ) → 44 * q + r ≡ g → r < 44 → g ≤ 44 * max 1 (q + min 1 r)
    parts q r g whole small = omega arith

each_part : (a b c g e : ℕ) → max a (max b c) ≤ g → g ≤ longest_bar * e → (a ≤ longest_bar * e) × (b ≤ longest_bar * e) × (c ≤ longest_bar * e)
each_part a b c g e most h = (omega arith, omega arith, omega arith)

-- the characters stand for so many flights that the bars of each step are short enough
pub all_short : (steps : List Step) (i : ℕ) (s : Step) → i < length steps → s ≡ get_or steps i s → IsShort (each_of steps) s
all_short steps i s lt is = each_part s.planned s.slots s.calculated (greatest steps) (each_of steps) (within steps 0 i s lt is) (enough (greatest steps))
