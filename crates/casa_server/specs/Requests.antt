-- to believe: the beginnings of requests of HTTP, which a server of lines takes no byte of
use Rattle.std.specs.Prelude.{ℕ, List, [], ◌∷◌, Bool, codes, if◌then◌else◌, nat_eq}
use Rattle.std.specs.List.{list_any, starts_with}

-- a method, and the space behind it
abbrev pub request_beginnings : List (List ℕ)
request_beginnings =
    codes "GET " ∷ codes "HEAD " ∷ codes "POST " ∷ codes "PUT " ∷ codes "PATCH " ∷ codes "DELETE " ∷ codes "CONNECT "
    ∷ codes "OPTIONS " ∷ codes "TRACE " ∷ codes "PRI " ∷ []

-- the bytes begin as a request does
abbrev pub begins_request : List ℕ → Bool
begins_request bytes = list_any (starts_with nat_eq bytes) request_beginnings

-- what a server reads of the bytes that a peer sends: none of a request, and all of anything else
abbrev pub let_through : List ℕ → List ℕ
let_through bytes = if begins_request bytes then [] else bytes
