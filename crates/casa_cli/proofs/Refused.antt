-- words that clap refuses
use Rattle.std.proofs.Common.{◌≡◌, List, [], ◌∷◌, Result, Err, inl, inr, sym, subst}
use Rattle.std.specs.Prelude.{IfErr}
use Rattle.clap.specs.Kinds.{HasKind, Kinds, or_else}
use Rattle.clap.specs.Words.{fault_of}
use Rattle.clap.specs.declared.error.Error.{Error}
use Rattle.casa_filing.specs.Text.{Text}
use Rattle.casa_cli.specs.Tasks.{AreRefused}
use Rattle.casa_usage.specs.Usage.{whole_app}
use Rattle.casa_cli.specs.declared.tasks.Task.{Task}
use Rattle.casa_cli.specs.declared.tasks.TaskFault.{TaskFault}
use Rattle.casa_cli.specs.declared.tasks.TaskFault.TheVariants.{Words}

first_kinds : (a b : Kinds) (error : Error) → HasKind a error → HasKind (or_else a b) error
first_kinds [] b error (inl refused) = inl refused
first_kinds [] b error (inr among) = absurd among
first_kinds (k ∷ ks) b error kinds = kinds

-- a fault of clap refuses the words
pub refused_by_clap : (words : List Text) (error : Error) (r : Result Task TaskFault) → r ≡ Err (Words error)
    → HasKind (fault_of whole_app words) error → IfErr r (AreRefused words)
refused_by_clap words error r is kinds = subst (λ x. IfErr x (AreRefused words)) (sym is) (first_kinds _ _ error kinds)
