use Rattle.std.proofs.Common.{◌∙◌, Bool, ap}
use Rattle.std.specs.Prelude.{◌||◌}
use Rattle.casa_filing.specs.Text.{Text, same_text}
use Rattle.casa_import.specs.Keyed.{has_key}
use Rattle.casa_import.proofs.Making.{is_filed-more}
use Rattle.casa_import.proofs.filings.take.Goals as goal

pub returns-then-not-contains-clause-keys : goal.returns-then-not-contains-clause-keys
returns-then-not-contains-clause-keys c = λ key.
    c.in_ok-insert-in-Ok.ensures key
    ∙ ap (λ (k : Text). same_text k key || has_key c.args.keys.now key) c.key-then-not-contains.ensures
    ∙ ap (λ (b : Bool). same_text c.in-Ok.plan.key key || b) (c.requires key)
    ∙ is_filed-more _ _ c.in-Ok.plan key c.in_ok-push-in-Ok.ensures.items
