-- to believe: why a journal's calls are not answered again
use Rattle.casa_day.specs.declared.event.OpenFault.{OpenFault}
use Rattle.casa_day.specs.Refusals.{IsOfLines}
use Rattle.casa_keeper.specs.declared.recovery.RecoveryFault.{RecoveryFault}
use Rattle.casa_keeper.specs.declared.recovery.RecoveryFault.TheVariants.{Refused, NotAlone, MoreThanTorn, NotSetAside}

-- where the journal is refused, this is so of the reason
abbrev pub IfRefused : (OpenFault → Type 0) → RecoveryFault → Type 0
IfRefused P (Refused why) = P why
IfRefused P NotAlone = Unit {0}
IfRefused P (MoreThanTorn lines bytes) = Unit {0}
IfRefused P NotSetAside = Unit {0}

-- a fault that comes before anything is cut, and not of the file or of memory
abbrev pub IsBeforeCut : RecoveryFault → Type 0
IsBeforeCut (Refused why) = IsOfLines why
IsBeforeCut NotAlone = Unit {0}
IsBeforeCut (MoreThanTorn lines bytes) = Unit {0}
IsBeforeCut NotSetAside = Unit {0}

-- a fault that comes of what stands behind the whole lines
abbrev pub IsOfEnd : RecoveryFault → Type 0
IsOfEnd (Refused why) = ⊥
IsOfEnd NotAlone = ⊥
IsOfEnd (MoreThanTorn lines bytes) = Unit {0}
IsOfEnd NotSetAside = Unit {0}
