-- what is sent to a thread
use denote.Exit.{Exit, if_kept, unseen}
use denote.Param.Send.{Quiet}
use Rattle.std.proofs.Common.{Bool, true, false}

-- nothing of a value is left to its thread, whether it is kept or not
pub quiet_if_kept : {D : Type 0} (b : Bool) (e : Exit D) → Quiet e → Quiet (if_kept b e unseen)
quiet_if_kept true e quiet = quiet
quiet_if_kept false e quiet = λ d w. tt
