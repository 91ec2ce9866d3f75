-- to believe: what a browser's request is answered with
use Rattle.std.specs.Prelude.{◌≡◌, ◌⊎◌, ℕ, List, [], ◌∷◌, ◌++◌, codes, Option, None, Some}
use Rattle.http.specs.declared.request.Request.{Request}
use Rattle.http.specs.Request.{body_of}
use Rattle.http_server.specs.declared.response.Response.{Response}
use Rattle.http_server.specs.Response.{IsResponse}
use Rattle.casa_http.specs.declared.hosts.Hosts.{Hosts}
use Rattle.casa_http.specs.declared.route.Route.{Route}
use Rattle.casa_http.specs.declared.route.Route.TheVariants.{Foreign, Unknown, OnlyGet, OnlyPost, Forbidden, Page, State, List as Listing, Flight, Since, Metrics, Lines, Try}
use Rattle.casa_http.specs.Question.{Question, whole_state, list_named, flight_named, calls_behind, server_metrics, lines_tried}
use Rattle.casa_http.specs.Routes.{IsPosition, query_of, route_of}

-- what a browser lets the page do: run and draw what is in it, and ask the server that it came from; and it stands in no frame
abbrev pub policy : List ℕ
policy =
    codes "default-src 'none'; script-src 'unsafe-inline'; style-src 'unsafe-inline'; connect-src 'self'; "
    ++ codes "base-uri 'none'; form-action 'none'; frame-ancestors 'none'"

-- The fields of every answer: a browser keeps no copy of it, lets it do no more than the policy says, gives it to no page of
-- another origin, and takes it for nothing but what it says it is
abbrev pub common_fields : List (List ℕ × List ℕ)
common_fields =
    (codes "cache-control", codes "no-store")
    ∷ (codes "content-security-policy", policy)
    ∷ (codes "cross-origin-resource-policy", codes "same-origin")
    ∷ (codes "x-content-type-options", codes "nosniff")
    ∷ []

-- there was no memory for an answer
abbrev pub IsUnavailable : Response → Type 0
IsUnavailable response = IsResponse 503 [] [] response

-- this status, the common fields and these fields, and this text, where there was memory for them
abbrev pub IsSent : (status : ℕ) → List (List ℕ × List ℕ) → (text : List ℕ) → Response → Type 0
IsSent status fields text response = IsResponse status (common_fields ++ fields) text response ⊎ IsUnavailable response

-- this status alone
abbrev pub IsRefused : (status : ℕ) → Response → Type 0
IsRefused status response = IsSent status [] [] response

-- a text of this kind
abbrev pub IsText : (kind text : List ℕ) → Response → Type 0
IsText kind text response = IsSent 200 ((codes "content-type", kind) ∷ []) text response

-- a text of this kind where something was found, and else this status
abbrev pub IsFound : (kind : List ℕ) → (else_status : ℕ) → Option (List ℕ) → Response → Type 0
IsFound kind else_status None response = IsRefused else_status response
IsFound kind else_status (Some text) response = IsText kind text response

-- a text of this kind where there was memory for one
abbrev pub IsMade : (kind : List ℕ) → Option (List ℕ) → Response → Type 0
IsMade kind None response = IsUnavailable response
IsMade kind (Some text) response = IsText kind text response

-- only this method is allowed
abbrev pub IsOnlyFor : (method : List ℕ) → Response → Type 0
IsOnlyFor method response = IsSent 405 ((codes "allow", method) ∷ []) [] response

-- in what kind of text it is shown
abbrev pub kind_of : Question → List ℕ
kind_of server_metrics = codes "text/plain; version=0.0.4; charset=utf-8"
kind_of (lines_tried lines) = codes "application/x-ndjson"
kind_of question = codes "application/json"

-- with which status it is told that nothing is shown: there is no such thing, or there are too many lines
abbrev pub status_without : Question → ℕ
status_without (lines_tried lines) = 413
status_without question = 404

-- what stands behind the page shows what can be looked at; it was the old one and is the new one afterwards
module _ {B : Type 0} (shows : B → Question → Option (List ℕ) → B → Type 0) where
  -- what a question names is shown where it is found; where there is no memory for it, nothing changes
  abbrev pub IsShown : Question → (old : B) → Response → (new : B) → Type 0
  IsShown question old response new =
      ((found : Option (List ℕ)) × shows old question found new × IsFound (kind_of question) (status_without question) found response)
      ⊎ (IsUnavailable response × (new ≡ old))

  -- what came of the calls behind a position, where there is one
  abbrev pub IsShownBehind : Option ℕ → (old : B) → Response → (new : B) → Type 0
  IsShownBehind None old response new = IsRefused 404 response × (new ≡ old)
  IsShownBehind (Some position) old response new = IsShown (calls_behind position) old response new

-- and answers lines
module _ {B : Type 0} (shows : B → Question → Option (List ℕ) → B → Type 0)
    (answers : B → List ℕ → Option (List ℕ) → B → Type 0) where
  -- the response to what a request asks for
  abbrev pub AnswersTo : Route → (page : List ℕ) → (old : B) → Request (List ℕ) → Response → (new : B) → Type 0
  AnswersTo Foreign page old r response new = IsRefused 421 response × (new ≡ old)
  AnswersTo Unknown page old r response new = IsRefused 404 response × (new ≡ old)
  AnswersTo OnlyGet page old r response new = IsOnlyFor (codes "GET") response × (new ≡ old)
  AnswersTo OnlyPost page old r response new = IsOnlyFor (codes "POST") response × (new ≡ old)
  AnswersTo Forbidden page old r response new = IsRefused 403 response × (new ≡ old)
  AnswersTo Page page old r response new = IsText (codes "text/html; charset=utf-8") page response × (new ≡ old)
  AnswersTo State page old r response new = IsShown shows whole_state old response new
  AnswersTo Listing page old r response new = IsShown shows (list_named (query_of r)) old response new
  AnswersTo Flight page old r response new = IsShown shows (flight_named (query_of r)) old response new
  AnswersTo Since page old r response new =
      (position : Option ℕ) × IsPosition (query_of r) position × IsShownBehind shows position old response new
  AnswersTo Metrics page old r response new = IsShown shows server_metrics old response new
  AnswersTo Lines page old r response new =
      (text : Option (List ℕ)) × answers old (body_of r) text new × IsMade (codes "application/x-ndjson") text response
  AnswersTo Try page old r response new = IsShown shows (lines_tried (body_of r)) old response new

  abbrev pub IsAnswered : Hosts → (page : List ℕ) → (old : B) → Request (List ℕ) → Response → (new : B) → Type 0
  IsAnswered hosts page old r response new = AnswersTo (route_of hosts r) page old r response new
