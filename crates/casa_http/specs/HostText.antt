-- to believe: hosts as browsers write them
use Rattle.std.specs.Prelude.{ℕ, ◌==◌, List, [], ◌∷◌, ◌++◌, map, codes, decimal, if◌then◌else◌, string_bytes}
use Rattle.casa_http.specs.declared.hosts.Hosts.{Hosts}

-- a name at a port: browsers write no port where it is 80
abbrev pub host_text : (name : List ℕ) → (port : ℕ) → List ℕ
host_text name port = if port == 80 then name else name ++ (codes ":" ++ decimal port)

abbrev pub names_of : Hosts → List (List ℕ)
names_of hosts = map string_bytes hosts.names.items

-- the hosts of a server at this port, for browsers on its own machine
abbrev pub local_hosts : (port : ℕ) → List (List ℕ)
local_hosts port = host_text (codes "127.0.0.1") port ∷ host_text (codes "localhost") port ∷ []
