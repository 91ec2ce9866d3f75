-- inner contracts: texts that are written between brackets, with commas between them
use Rattle.std.specs.Prelude.{ℕ, List, [], ◌∷◌, ◌++◌, flat_map, map, codes}
use Rattle.std.specs.Ordering.{nat_cmp, match_ordering}
use Rattle.std.specs.Cmp.Lexicographic.{slice_cmp}
use Rattle.serde_json.specs.Data.{Data, null, string}
use Rattle.serde_json.specs.Written.{compact_text}
use Rattle.casa_grid.specs.declared.period.Period.{Period}
use Rattle.casa_filing.specs.Text.{Text}
use Rattle.casa_filing.specs.FlightPlan.{FlightPlan}
use Rattle.casa_flight.specs.declared.call.Call.{Call}
use Rattle.casa_flight.specs.declared.call.Call.TheVariants.{File, Amend, Cancel, Revise, Exempt, Show, OpenReg, CloseReg, Rates, List as Listing, Tick, Swap}
use Rattle.casa_wire.specs.LineTexts.{count, list_of, object_of, or_null}
use Rattle.casa_lines.specs.declared.object.Member.{Member as WrittenMember}
use Rattle.casa_lines.specs.declared.object.Value.{Value}
use Rattle.casa_lines.specs.declared.object.Value.TheVariants.{Null, Number, Name, Crossings, Periods}
use Rattle.casa_lines.specs.Lines.{Member, crossing_data, period_data, status_name}

-- the texts of these, each behind a comma
abbrev pub behind_commas : {A : Type 0} → (A → List ℕ) → List A → List ℕ
behind_commas text xs = flat_map (λ x. 44 ∷ text x) xs

-- the texts of these, with a comma between each two
abbrev pub joined : {A : Type 0} → (A → List ℕ) → List A → List ℕ
joined text [] = []
joined text (x ∷ xs) = text x ++ behind_commas text xs

abbrev pub between : {A : Type 0} → (A → List ℕ) → ℕ → List A → ℕ → List ℕ
between text opening xs closing = opening ∷ (joined text xs ++ closing ∷ [])

abbrev pub value_data : Value → Data
value_data Null = null
value_data (Number n) = count n
value_data (Name text) = string text.now
value_data (Crossings via) = list_of crossing_data via.now
value_data (Periods periods) = list_of period_data periods.now

abbrev pub member_of : WrittenMember → Member
member_of m = (m.name.now, value_data m.value)

-- a member as it is written: its name, a colon and its value
abbrev pub member_text : Member → List ℕ
member_text m = compact_text (string m.0) ++ 58 ∷ compact_text m.1

-- two rows of members as one: where each is in the order of the names, so are all
unfoldable pub merged : List Member → List Member → List Member
merged [] others = others
merged (m ∷ ms) [] = m ∷ ms
merged (m ∷ ms) (other ∷ others) =
    match_ordering (slice_cmp nat_cmp m.0 other.0) (m ∷ merged ms (other ∷ others)) (other ∷ merged (m ∷ ms) others) (other ∷ merged (m ∷ ms) others)

-- the members of two rows, as one
abbrev pub both_rows : List WrittenMember → List WrittenMember → List Member
both_rows members beside = merged (map member_of members) (map member_of beside)

-- the members of a command that has a flight's key alone, in the order of their names, as all below
abbrev pub keyed : Text → Text → List Member
keyed name key = (codes "cmd", string name) ∷ (codes "key", string key) ∷ []

abbrev pub named : Text → Text → List Member
named name reg = (codes "cmd", string name) ∷ (codes "reg", string reg) ∷ []

abbrev pub filed : Text → FlightPlan → List Member
filed name plan =
    (codes "cmd", string name) ∷ (codes "eobt", count plan.eobt) ∷ (codes "key", string plan.key)
    ∷ (codes "sts", or_null string (status_name plan.sts)) ∷ (codes "taxi", count plan.taxi) ∷ (codes "via", list_of crossing_data plan.via) ∷ []

abbrev pub opened : Text → Text → List Period → List Member
opened reg loc periods =
    (codes "cmd", string (codes "open")) ∷ (codes "loc", string loc) ∷ (codes "periods", list_of period_data periods) ∷ (codes "reg", string reg) ∷ []

abbrev pub rated : Text → List Period → List Member
rated reg periods = (codes "cmd", string (codes "rates")) ∷ (codes "periods", list_of period_data periods) ∷ (codes "reg", string reg) ∷ []

abbrev pub in_order : Call → List Member
in_order (File plan) = filed (codes "file") plan
in_order (Amend plan) = filed (codes "amend") plan
in_order (Cancel key) = keyed (codes "cancel") key
in_order (Revise key) = keyed (codes "revise") key
in_order (Exempt key) = keyed (codes "exempt") key
in_order (Show key) = keyed (codes "show") key
in_order (OpenReg reg loc periods) = opened reg loc periods
in_order (CloseReg reg) = named (codes "close") reg
in_order (Rates reg periods) = rated reg periods
in_order (Listing reg) = named (codes "list") reg
in_order (Tick at) = (codes "at", count at) ∷ (codes "cmd", string (codes "tick")) ∷ []
in_order (Swap key other) = (codes "cmd", string (codes "swap")) ∷ (codes "key", string key) ∷ (codes "other", string other) ∷ []

-- a call with members beside it, as it is written
abbrev pub text_beside : Call → List WrittenMember → List ℕ
text_beside call beside = compact_text (object_of (merged (in_order call) (map member_of beside)))
