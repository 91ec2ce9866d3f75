use Rattle.std.specs.Prelude.{ℕ, List, ◌++◌}
use Rattle.std.specs.Io.KnownBytes.{Appends, Consumes}
use Rattle.std.proofs.Common.{sym, ◌∙◌, ap, subst}
use Rattle.http_server.specs.Connection.{config_of, history}
use Rattle.http_server.specs.Exchange.{Call, Calls}
use Rattle.http_server.proofs.Theorems.{always_served}
use Rattle.casa_http.specs.Browsed.{SiteAnswers}
use Rattle.casa_http.proofs.browsing.browse.Goals as goal

-- the connection begins with nothing, so what it has read, written and called is what `serve` tells
pub returns : goal.returns
returns g c =
    let fresh = c.new-connection.ensures.history in
    let ended = c.serve.new.connection in
    let read = c.serve.ensures.read in
    let written = c.serve.ensures.written in
    let Read : List ℕ → Type 0 = λ m. Consumes (g.I.Read.remaining c.args.reader.now) (g.I.Read.remaining c.serve.new.reader) m in
    let Wrote : List ℕ → Type 0 = λ m. Appends (g.O.Write.contents c.args.writer.now) (g.O.Write.contents c.serve.new.writer) m in
    let Called : List Call → Type 0 = λ m. Calls (SiteAnswers g.B.Backend.shows g.B.Backend.answers) c.args.site.now c.serve.new.service m (history ended).calls in
    record {
      config = config_of ended;
      bounded = rw (c.serve.ensures.config, c.new-connection.ensures.config) c.bounds.ensures;
      history = history ended;
      read = subst Read (sym (read.2 ∙ ap (λ h. h.received ++ read.0) fresh)) read.1;
      written = subst Wrote (sym (written.2 ∙ ap (λ h. h.sent ++ written.0) fresh)) written.1;
      served = always_served ended;
      calls = subst Called (ap (λ h. h.calls) fresh) c.serve.ensures.calls;
      done = c.serve.ensures.done;
    }
