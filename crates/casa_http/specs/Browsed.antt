-- to believe: what is read from a browser over its connection, and what is written to it
use Rattle.std.specs.Prelude.{◌≡◌, ℕ, List, [], Option, Result, OnOk}
use Rattle.std.specs.Io.KnownBytes.{Appends, Consumes}
use Rattle.http.specs.declared.request.Request.{Request}
use Rattle.http_server.specs.declared.response.Response.{Response}
use Rattle.http_server.specs.declared.state.Config.{Config}
use Rattle.http_server.specs.Exchange.{Calls}
use Rattle.http_server.specs.History.{History, IsServed, IsDone}
use Rattle.casa_http.specs.declared.site.Site.{Site}
use Rattle.casa_http.specs.Answered.{IsAnswered}
use Rattle.casa_http.specs.Question.{Question}

-- the most bytes of a request's head, of its body, and of what stands around the parts of a body that comes in parts; and of
-- answers that wait to be written while more is read
pub record IsBounded (config : Config) : Type 0 where
  pub head : config.limits.max_head_len ≡ 16384
  pub body : config.max_body_len ≡ 1048576
  pub extensions : config.limits.max_extensions_len ≡ 16384
  pub trailers : config.limits.max_trailers_len ≡ 16384
  pub pending : config.max_pending ≡ 65536

module _ {B : Type 0} (shows : B → Question → Option (List ℕ) → B → Type 0)
    (answers : B → List ℕ → Option (List ℕ) → B → Type 0) where
  -- the site answers the request by the response, and keeps its hosts and its page
  abbrev pub SiteAnswers : (old : Site B) → Request (List ℕ) → Response → (new : Site B) → Type 0
  SiteAnswers old request response new =
      IsAnswered shows answers old.hosts.now old.page.now old.backend request response new.backend
      × (new.hosts ≡ old.hosts) × (new.page ≡ old.page)

  -- What was read is requests of HTTP/1.1, within these bounds, which the site answered one after the other. What was
  -- written is these answers, in their order, or a beginning of that. What ended it the history tells; where it ended
  -- well, HTTP has nothing more to do
  pub record IsBrowsed {E : Type 0} (result : Result Unit E) (old new : Site B)
      (input input_left output output_now : Option (List ℕ)) : Type 0 where
    pub config : Config
    pub bounded : IsBounded config
    pub history : History
    pub read : Consumes input input_left history.received
    pub written : Appends output output_now history.sent
    pub served : ∥ IsServed config history ∥₁
    pub calls : Calls SiteAnswers old new [] history.calls
    pub done : OnOk result (IsDone history)
