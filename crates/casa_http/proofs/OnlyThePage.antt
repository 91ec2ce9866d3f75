-- a request that sends lines passed each test of its route
use Rattle.std.proofs.Common.{◌≡◌, ℕ, List, Bool, true, false, not, ◌||◌, Option, None, Some, refl, ap}
use Rattle.std.proofs.lemmas.Slice.Eq.{bytes_eq-Decides}
use Rattle.std.specs.Option.{option_map_or}
use Rattle.std.specs.Prelude.{◌++◌, bytes_eq, codes, if◌then◌else◌, is_some}
use Rattle.http.specs.declared.request.Request.{Request}
use Rattle.http.specs.Request.{head_of}
use Rattle.http_uri.specs.Uri.{uri_authority}
use Rattle.casa_http.specs.declared.hosts.Hosts.{Hosts}
use Rattle.casa_http.specs.declared.route.Route.{Route}
use Rattle.casa_http.specs.declared.route.Route.TheVariants.{Foreign, Unknown, OnlyGet, OnlyPost, Forbidden, Page, State, List as Listing, Flight, Since, Metrics, Lines, Try}
use Rattle.casa_http.specs.Routes.{SendsLines, field_of, is_known, is_of_page, path_of, read_at, read_by, route_of, sent_to}

none_of : {A : Type 0} → (o : Option A) → is_some o ≡ false → o ≡ None
none_of None h = refl
none_of (Some x) h = absurd (cc)

sent_first : (a b : Bool) → (if a then Some Lines else if b then Some Try else None) ≡ Some Lines → a ≡ true
sent_first true b h = refl
sent_first false true h = absurd (cc)
sent_first false false h = absurd (cc)

sent_second : (a b : Bool) → (if a then Some Lines else if b then Some Try else None) ≡ Some Try → b ≡ true
sent_second true b h = absurd (cc)
sent_second false true h = refl
sent_second false false h = absurd (cc)

-- of a route that no request has for another reason than that it sends lines to this path
module _ (asked : Route) (path : List ℕ)
    (foreign : Foreign ≡ asked → ⊥) (unknown : Unknown ≡ asked → ⊥) (only_get : OnlyGet ≡ asked → ⊥) (only_post : OnlyPost ≡ asked → ⊥)
    (forbidden : Forbidden ≡ asked → ⊥) (page : Page ≡ asked → ⊥) (state : State ≡ asked → ⊥) (listing : Listing ≡ asked → ⊥)
    (flight : Flight ≡ asked → ⊥) (since : Since ≡ asked → ⊥) (metrics : Metrics ≡ asked → ⊥)
    (at : (p : List ℕ) → sent_to p ≡ Some asked → p ≡ path) where
  route_in : (route : Route) → Some route ≡ Some asked → route ≡ asked
  route_in route h = cc

  listed : (a b c d e f : Bool)
      → (if a then Some Page else if b then Some State else if c then Some Listing else if d then Some Flight else if e then Some Since else if f then Some Metrics else None) ≡ Some asked → ⊥
  listed true b c d e f h = page (route_in Page h)
  listed false true c d e f h = state (route_in State h)
  listed false false true d e f h = listing (route_in Listing h)
  listed false false false true e f h = flight (route_in Flight h)
  listed false false false false true f h = since (route_in Since h)
  listed false false false false false true h = metrics (route_in Metrics h)
  listed false false false false false false h = cc

  got : (get : Bool) (route : Route) → (if get then route else OnlyGet) ≡ asked → route ≡ asked
  got true route h = h
  got false route h = absurd (only_get h)

  not_read : (method : List ℕ) (read : Option Route) → (read ≡ Some asked → ⊥) → read_by method read ≡ asked → ⊥
  not_read method None none h = unknown h
  not_read method (Some route) none h = none (ap Some (got (bytes_eq method (codes "GET")) route h))

  all_hold : (other : Route) → (other ≡ asked → ⊥) → (target known post of_page : Bool) (sent : Option Route)
      → (if target || not known then Foreign
      else option_map_or (λ route. if not post then OnlyPost else if of_page then route else Forbidden) sent other) ≡ asked
      → (target ≡ false) × (known ≡ true) × (sent ≡ Some asked) × (post ≡ true) × (of_page ≡ true)
  all_hold other unlike true known post of_page sent h = absurd (foreign h)
  all_hold other unlike false false post of_page sent h = absurd (foreign h)
  all_hold other unlike false true post of_page None h = absurd (unlike h)
  all_hold other unlike false true false of_page (Some route) h = absurd (only_post h)
  all_hold other unlike false true true false (Some route) h = absurd (forbidden h)
  all_hold other unlike false true true true (Some route) h = (refl, refl, ap Some h, refl, refl)

  pub sends_lines : (hosts : Hosts) (r : Request (List ℕ)) → route_of hosts r ≡ asked → SendsLines hosts path r
  sends_lines hosts r h =
      let p = path_of r in
      let method = (head_of r).method in
      let unread = listed (bytes_eq p (codes "/")) (bytes_eq p (codes "/state")) (bytes_eq p (codes "/list")) (bytes_eq p (codes "/flight")) (bytes_eq p (codes "/since")) (bytes_eq p (codes "/metrics")) in
      let tests = all_hold (read_by method (read_at p)) (not_read method (read_at p) unread)
      (is_some (uri_authority (head_of r).uri)) (is_known hosts (field_of r (codes "host")))
      (bytes_eq method (codes "POST")) (is_of_page r) (sent_to p) h in
      record {
        target = none_of (uri_authority (head_of r).uri) tests.0;
        host = tests.1;
        path_is = at p tests.2;
        method = (bytes_eq-Decides method (codes "POST")).0 tests.3;
        origin = (bytes_eq-Decides (field_of r (codes "origin")) (codes "http://" ++ field_of r (codes "host"))).0 tests.4;
      }

answered_at : (p : List ℕ) → sent_to p ≡ Some Lines → p ≡ codes "/lines"
answered_at p h = (bytes_eq-Decides p (codes "/lines")).0 (sent_first (bytes_eq p (codes "/lines")) (bytes_eq p (codes "/try")) h)

tried_at : (p : List ℕ) → sent_to p ≡ Some Try → p ≡ codes "/try"
tried_at p h = (bytes_eq-Decides p (codes "/try")).0 (sent_second (bytes_eq p (codes "/lines")) (bytes_eq p (codes "/try")) h)

pub lines_are_of_the_page : (hosts : Hosts) (r : Request (List ℕ)) → route_of hosts r ≡ Lines → SendsLines hosts (codes "/lines") r
lines_are_of_the_page =
    sends_lines Lines (codes "/lines") (λ h. cc) (λ h. cc) (λ h. cc) (λ h. cc) (λ h. cc) (λ h. cc) (λ h. cc) (λ h. cc) (λ h. cc) (λ h. cc) (λ h. cc) answered_at

pub tries_are_of_the_page : (hosts : Hosts) (r : Request (List ℕ)) → route_of hosts r ≡ Try → SendsLines hosts (codes "/try") r
tries_are_of_the_page =
    sends_lines Try (codes "/try") (λ h. cc) (λ h. cc) (λ h. cc) (λ h. cc) (λ h. cc) (λ h. cc) (λ h. cc) (λ h. cc) (λ h. cc) (λ h. cc) (λ h. cc) tried_at
