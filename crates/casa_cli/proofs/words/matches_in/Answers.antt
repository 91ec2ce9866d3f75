use Rattle.std.proofs.Common.{rules, ◌≡◌, List, [], ℕ, Bor, refl, sym, subst, ap, map, is_some, true, ◌∙◌}
use Rattle.clap.specs.Words.{App, HasKind, fault_of, is_simple, is_simple_and_free, subcommand_of, subcommand_rows_of}
use Rattle.casa_usage.specs.Usage.{whole_app}
use Rattle.casa_cli.proofs.words.matches_in.Goals as goal

pub returns-in-Ok-try_get_matches_from-clause-ok :
    goal.returns-in-Ok-try_get_matches_from-clause-ok
returns-in-Ok-try_get_matches_from-clause-ok c =
    let words = map (λ (word : Bor (List ℕ)). word.now) c.args.words.now in
    let read = c.in-Ok-try_get_matches_from in
    let app = c.in-Ok.ensures.app in
    let clean : fault_of whole_app words ≡ [] =
    sym (ap (λ (a : App). fault_of a words) app) ∙ read.ensures.kinds (ap is_simple_and_free app) in
    let entered : subcommand_rows_of read.matches ≡ subcommand_of whole_app words =
    (read.ensures.matches (ap is_simple app)).1 ∙ ap (λ (a : App). subcommand_of a words) app in
    let some : is_some (subcommand_rows_of read.matches) ≡ true = search rules in
    (clean, entered, some)

pub returns-in-Err-try_get_matches_from-clause-err :
    goal.returns-in-Err-try_get_matches_from-clause-err
returns-in-Err-try_get_matches_from-clause-err c =
    let words = map (λ (word : Bor (List ℕ)). word.now) c.args.words.now in
    let read = c.in-Err-try_get_matches_from in
    let app = c.in-Ok.ensures.app in
    (read.error, refl, subst (λ (a : App). HasKind (fault_of a words) read.error) app (read.ensures.kinds (ap is_simple_and_free app)))
