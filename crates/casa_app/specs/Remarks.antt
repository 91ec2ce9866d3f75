-- to believe: what is said of lines that are no calls, and of refused calls
use Rattle.std.specs.Prelude.{ℕ, zero, suc, ◌+◌, ◌-◌, ◌==◌, ◌&&◌, ◌||◌, List, [], ◌∷◌, ◌++◌, length, take, Bool, true, false, codes, decimal, bytes_eq, nat_eq, if◌then◌else◌}
use Rattle.std.specs.List.{after_first, before_first, flat_map, starts_with}
use Rattle.casa_session.specs.Sending.{saturating_count}
use Rattle.casa_session.specs.Lines.{ended_lines}

-- a reply that tells of a fault or of a refusal, and the number of the line that has this reply, from 1
pub record Remark : Type 0 where
  pub number : ℕ
  pub reply : List ℕ

abbrev pub tells_fault : List ℕ → Bool
tells_fault reply = starts_with nat_eq reply (codes "{\"fault\":")

abbrev pub tells_refusal : List ℕ → Bool
tells_refusal reply = starts_with nat_eq reply (codes "{\"code\":")

-- the first bytes of a reply, which are all of one that tells of a fault or of a refusal
abbrev pub head : List ℕ → List ℕ
head reply = take 80 reply

-- the remark on a line of this number, if its reply tells of a fault or of a refusal
abbrev pub remark_on : ℕ → List ℕ → List Remark
remark_on number reply = if tells_fault reply || tells_refusal reply then record { number = number; reply = reply } ∷ [] else []

-- the remarks on lines with these replies, before which so many lines stand
abbrev pub remarks_from : ℕ → List (List ℕ) → List Remark
remarks_from n [] = []
remarks_from n (r ∷ rs) = remark_on (saturating_count (n + 1)) (head r) ++ remarks_from (n + 1) rs

-- the remarks on the lines that have this transcript
abbrev pub remarks : List ℕ → List Remark
remarks replies = remarks_from 0 (ended_lines replies)

abbrev pub is_mark : ℕ → Bool
is_mark byte = byte == 34

-- what stands in a reply behind so many quotation marks, up to the next one
abbrev pub word : ℕ → List ℕ → List ℕ
word zero reply = before_first is_mark reply
word (suc n) reply = word n (after_first is_mark reply)

-- a text with a space before it, where it has a byte
abbrev pub spaced : List ℕ → List ℕ
spaced [] = []
spaced (b ∷ bs) = 32 ∷ b ∷ bs

-- of a fault its name, and the member if it is of one; of a refusal that it is one, and its name
abbrev pub told : List ℕ → List ℕ
told reply = (if tells_fault reply then word 3 reply else word 5 reply) ++ spaced (word 7 reply)

abbrev pub tells_no_json : List ℕ → Bool
tells_no_json reply = bytes_eq reply (codes "{\"fault\":\"NotJson\"}")

-- what is said besides of the first line, where it is no JSON and a byte order mark stands before it
abbrev pub mark_told : Bool → Remark → List ℕ
mark_told false r = []
mark_told true r = if (r.number == 1) && tells_no_json r.reply then codes " (a byte order mark stands before it)" else []

-- the line of a remark
abbrev pub remark_line : Bool → Remark → List ℕ
remark_line marked r = codes "casa: line " ++ (decimal r.number ++ (codes ": " ++ (told r.reply ++ (mark_told marked r ++ 10 ∷ []))))

-- that there are so many remarks more
abbrev pub more_line : ℕ → List ℕ
more_line zero = []
more_line (suc n) = codes "casa: and " ++ (decimal (suc n) ++ codes " more\n")

-- the first ten remarks, and how many more there are
abbrev pub lines_said : Bool → List Remark → List ℕ
lines_said marked rs = flat_map (remark_line marked) (take 10 rs) ++ more_line (saturating_count (length rs) - 10)

-- what is said of a transcript
abbrev pub said : Bool → List ℕ → List ℕ
said marked replies = lines_said marked (remarks replies)
