-- to believe: what a browser's request asks for
use Rattle.std.specs.Prelude.{◌≡◌, ℕ, ◌^◌, ◌<◌, List, [], ◌++◌, Bool, IsTrue, not, ◌||◌, bytes_eq, codes, if◌then◌else◌, Option, None, Some, is_some, unwrap_or, string_bytes}
use Rattle.std.specs.List.{list_any}
use Rattle.std.specs.Option.{option_map_or, SomeIff}
use Rattle.std.specs.Str.Parse.{IsNumeral, digits_value, without_leading_plus}
use Rattle.http.specs.declared.request.Request.{Request}
use Rattle.http.specs.Request.{head_of}
use Rattle.http_header.specs.HeaderMap.{get}
use Rattle.http_uri.specs.Uri.{uri_authority, uri_path, uri_query}
use Rattle.casa_http.specs.declared.hosts.Hosts.{Hosts}
use Rattle.casa_http.specs.declared.route.Route.{Route}
use Rattle.casa_http.specs.declared.route.Route.TheVariants.{Foreign, Unknown, OnlyGet, OnlyPost, Forbidden, Page, State, List as Listing, Flight, Since, Metrics, Lines, Try}

-- the first value of a field, empty where there is none
abbrev pub field_of : Request (List ℕ) → (name : List ℕ) → List ℕ
field_of r name = option_map_or (λ v. v.bytes) (get (head_of r).headers name) []

-- the target has a path, and behind the first `?` a query, which is empty where there is none
abbrev pub path_of : Request (List ℕ) → List ℕ
path_of r = uri_path (head_of r).uri

abbrev pub query_of : Request (List ℕ) → List ℕ
query_of r = unwrap_or (uri_query (head_of r).uri) []

-- browsers know the server under this host
abbrev pub is_known : Hosts → (host : List ℕ) → Bool
is_known hosts host = list_any (λ known. bytes_eq host (string_bytes known)) hosts.names.items

-- its target has a host of its own, or it goes to a host under which the server is not known
abbrev pub is_foreign : Hosts → Request (List ℕ) → Bool
is_foreign hosts r = is_some (uri_authority (head_of r).uri) || not (is_known hosts (field_of r (codes "host")))

-- a page sent it that came from the host to which it goes
abbrev pub is_of_page : Request (List ℕ) → Bool
is_of_page r = bytes_eq (field_of r (codes "origin")) (codes "http://" ++ field_of r (codes "host"))

-- what can be read at a path
abbrev pub read_at : (path : List ℕ) → Option Route
read_at path =
    if bytes_eq path (codes "/") then Some Page
    else if bytes_eq path (codes "/state") then Some State
    else if bytes_eq path (codes "/list") then Some Listing
    else if bytes_eq path (codes "/flight") then Some Flight
    else if bytes_eq path (codes "/since") then Some Since
    else if bytes_eq path (codes "/metrics") then Some Metrics
    else None

-- it is read by GET alone
abbrev pub read_by : (method : List ℕ) → Option Route → Route
read_by method None = Unknown
read_by method (Some route) = if bytes_eq method (codes "GET") then route else OnlyGet

-- what is done with lines that are sent to a path
abbrev pub sent_to : (path : List ℕ) → Option Route
sent_to path =
    if bytes_eq path (codes "/lines") then Some Lines
    else if bytes_eq path (codes "/try") then Some Try
    else None

-- it is done by POST alone, and only with those that the page sends
abbrev pub sent_by : Request (List ℕ) → Route → Route
sent_by r route =
    if not (bytes_eq (head_of r).method (codes "POST")) then OnlyPost
    else if is_of_page r then route
    else Forbidden

abbrev pub own_route : Request (List ℕ) → Route
own_route r = option_map_or (sent_by r) (sent_to (path_of r)) (read_by (head_of r).method (read_at (path_of r)))

abbrev pub route_of : Hosts → Request (List ℕ) → Route
route_of hosts r = if is_foreign hosts r then Foreign else own_route r

-- the page sends lines to a path: by POST, at one of the hosts, and it came from that host
pub record SendsLines (hosts : Hosts) (path : List ℕ) (r : Request (List ℕ)) : Type 0 where
  pub target : uri_authority (head_of r).uri ≡ None
  pub host : IsTrue (is_known hosts (field_of r (codes "host")))
  pub path_is : path_of r ≡ path
  pub method : (head_of r).method ≡ codes "POST"
  pub origin : field_of r (codes "origin") ≡ codes "http://" ++ field_of r (codes "host")

-- the position that a text writes in decimal digits, perhaps behind a plus; none where it writes no number below 2^64
abbrev pub IsPosition : List ℕ → Option ℕ → Type 0
IsPosition text position =
    let digits = without_leading_plus text in
    SomeIff position (IsNumeral 10 digits × (digits_value 10 digits < 2 ^ 64)) (digits_value 10 digits)
