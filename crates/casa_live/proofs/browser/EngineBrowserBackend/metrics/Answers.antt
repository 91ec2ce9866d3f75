use Rattle.std.proofs.Common.{List, Some, ap, subst, sym}
use mathlib.Core.List.{IsPrefix}
use Rattle.casa_flight.specs.declared.call.Call.{Call}
use Rattle.casa_flight.specs.declared.reply.Reply.{Reply}
use Rattle.casa_history.specs.declared.entry.Entry.{Entry}
use Rattle.casa_http.specs.Question.{server_metrics}
use Rattle.casa_live.specs.Shown.{IsShownBehind}
use Rattle.casa_live.proofs.browser.EngineBrowserBackend.metrics.Goals as goal

pub returns-clause-ok : goal.returns-clause-ok
returns-clause-ok g c =
    let history : List (Entry Call Reply) = c.look.new.front in
    let before : List (Entry Call Reply) = c.args.self.now.seen.front in
    let text = c.in_ok-text.text.items in (
      subst (λ (now : List (Entry Call Reply)). IsShownBehind before now server_metrics (Some text)) (sym c.see_counted.ensures.front)
          (record {
            sequential = c.in_ok-look.ensures.sequential;
            longer = subst (λ (es : List (Entry Call Reply)). IsPrefix es history) c.front-front.ensures c.in_ok-look.ensures.longer;
            shown = (c.read.result, ap Some (c.in_ok-text.ensures history c.in_ok-tally.ensures c.in_ok-look.ensures.look.clock));
          }),
      c.see_counted.ensures.desk,
    )
