use Rattle.std.proofs.Common.{◌∙◌, ap, sym, Ok}
use Rattle.casa_filing.specs.Text.{Text}
use Rattle.casa_html.specs.declared.page.TheConstants.{PAGE}
use Rattle.casa_html.specs.Recorded.{recorded_page}
use Rattle.casa_look.specs.DayText.{day_text}
use Rattle.casa_app.proofs.pages.PageOfQuestion.text.Goals as goal

pub returns-clause-some : goal.returns-clause-some
returns-clause-some c =
    sym (ap (λ (text : Text). Ok text) (c.in_ok-recorded_page.ensures
    ∙ ap (recorded_page PAGE.now) (c.as_slice.ensures.value ∙ c.in_ok-record.ensures ∙ ap day_text c.in_ok-record_of.ensures.told)))
