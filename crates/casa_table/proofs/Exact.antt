-- orders that tell all keys apart
use Rattle.std.proofs.Common.{◌≡◌, true}
use Rattle.std.specs.declared.cmp.Ordering.{Ordering}
use Rattle.std.specs.Ordering.{is_eq}

-- keys that compare Equal are the same
abbrev pub IsExact : {K : Type 0} → (K → K → Ordering) → Type 0
IsExact {K} R = (x y : K) → is_eq (R x y) ≡ true → x ≡ y
