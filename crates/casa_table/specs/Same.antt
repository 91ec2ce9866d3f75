-- to believe: when versions that may be absent are the same
use Rattle.std.specs.Prelude.{Option, None, Some, Bool, true, false}

-- whether versions are the same, or there is none on either side
abbrev pub same_version : {V : Type 0} → (V → V → Bool) → Option V → Option V → Bool
same_version is_same None None = true
same_version is_same None (Some w) = false
same_version is_same (Some v) None = false
same_version is_same (Some v) (Some w) = is_same v w
