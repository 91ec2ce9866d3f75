-- a call that is read from a line is as its type keeps it
use Rattle.std.proofs.Common.{◌≡◌, ℕ, List, [], ◌∷◌, Bool, true, false, cond, Option, Some, None, refl, subst, arith}
use Rattle.std.specs.Prelude.{Result, Ok, Err, IfOk, IfSome, option_and_then, option_map, nat_le, bytes_eq, codes}
use Rattle.std.specs.List.{AllByRecursion}
use Rattle.std.proofs.lemmas.Bool.Decides.{nat_tests}
use Rattle.std.proofs.lemmas.List.Elements.{All-from_recursion}
use Rattle.serde_json.specs.Data.{Data, Items, no_items, item}
use Rattle.serde_json.specs.Find.{get, as_str, as_array}
use Rattle.casa_time.specs.Moment.{last_moment}
use Rattle.casa_grid.specs.declared.period.Period.{Period}
use Rattle.casa_grid.specs.declared.profile.ProfileFault.{ProfileFault}
use Rattle.casa_grid.specs.ProfileFaults.{profile_fault}
use Rattle.casa_grid.proofs.Faults.{is_profile}
use Rattle.casa_filing.specs.Text.{Text, is_name}
use Rattle.casa_filing.specs.FlightPlan.{FlightPlan}
use Rattle.casa_filing.specs.PlanFaults.{plan_fault}
use Rattle.casa_filing.specs.declared.plan.Crossing.{Crossing}
use Rattle.casa_filing.specs.declared.plan.PlanFault.{PlanFault}
use Rattle.casa_filing.proofs.PlanFaults.{has_name, is_valid}
use Rattle.casa_flight.specs.declared.call.Call.{Call}
use Rattle.casa_wire.specs.declared.fault.WireFault.{WireFault}
use Rattle.casa_wire.specs.declared.fault.WireFault.TheVariants.{NotJson, NoCommand}
use Rattle.casa_wire.specs.Members.{all_of, at_most, crossing_of, moment_of, name_in, name_of, part, period_of, periods_of, via_of, whole_number, number_of, status_of}
use Rattle.casa_wire.specs.Commands.{◌>>=◌, or_fault, checked_plan, checked_profile, plan_member, profile_member, file_call, amend_call, cancel_call, revise_call, exempt_call, show_call, open_call, close_call, rates_call, list_call, tick_call, swap_call, call_of, command_named, line_value, line_call}
use Rattle.casa_lines.specs.Sayable.{IsName, IsMoment, IsPlan, IsProfileOfMoments, IsSayable}

-- what holds of a reading's results holds of those of the next one
and_then : {A B : Type 0} (Q : A → Type 0) (P : B → Type 0) (o : Option A) (f : A → Option B) → IfSome o Q → ((a : A) → Q a → IfSome (f a) P) → IfSome (option_and_then f o) P
and_then Q P None f h next = tt
and_then Q P (Some a) f h next = next a h

any_then : {A B : Type 0} (P : B → Type 0) (o : Option A) (f : A → Option B) → ((a : A) → IfSome (f a) P) → IfSome (option_and_then f o) P
any_then P None f next = tt
any_then P (Some a) f next = next a

-- and of those of a call
ok_then : {A B : Type 0} (Q : A → Type 0) (P : B → Type 0) (fault : WireFault) (o : Option A) (f : A → Result B WireFault) → IfSome o Q → ((a : A) → Q a → IfOk (f a) P) → IfOk (or_fault fault o >>= f) P
ok_then Q P fault None f h next = tt
ok_then Q P fault (Some a) f h next = next a h

any_ok : {A B : Type 0} (P : B → Type 0) (fault : WireFault) (o : Option A) (f : A → Result B WireFault) → ((a : A) → IfOk (f a) P) → IfOk (or_fault fault o >>= f) P
any_ok P fault None f next = tt
any_ok P fault (Some a) f next = next a

made : {A B : Type 0} (Q : A → Type 0) (P : B → Type 0) (r : Result A WireFault) (f : A → Result B WireFault) → IfOk r Q → ((a : A) → Q a → IfOk (f a) P) → IfOk (r >>= f) P
made Q P (Err fault) f h next = tt
made Q P (Ok a) f h next = next a h

-- names and moments
tested : {A : Type 0} (P : A → Type 0) (b : Bool) (x : A) → (b ≡ true → P x) → IfSome (cond b (Some x) None) P
tested P true x h = h refl
tested P false x h = tt

name_is : (d : Data) → IfSome (name_of d) IsName
name_is d = any_then IsName (as_str d) name_in (λ text. tested IsName (is_name text) text (λ is. is))

moment_is : (d : Data) → IfSome (moment_of d) IsMoment
moment_is d = any_then IsMoment (whole_number d) (at_most last_moment) (λ n. tested IsMoment (nat_le n last_moment) n (λ is. grind (arith, nat_tests)))

part_is : {A : Type 0} (P : A → Type 0) (name : Text) (reading : Data → Option A) (d : Data) → ((e : Data) → IfSome (reading e) P) → IfSome (part name reading d) P
part_is P name reading d each = any_then P (get name d) reading each

-- crossings and periods
abbrev IsOver : Crossing → Type 0
IsOver c = IsName c.loc × IsMoment c.eto

abbrev IsWithin : Period → Type 0
IsWithin p = IsMoment p.begin × IsMoment p.until

crossing_is : (d : Data) → IfSome (crossing_of d) IsOver
crossing_is d =
    and_then IsName IsOver (part (codes "loc") name_of d) _ (part_is IsName (codes "loc") name_of d name_is)
    (λ loc is. and_then IsMoment IsOver (part (codes "eto") moment_of d) _ (part_is IsMoment (codes "eto") moment_of d moment_is) (λ eto at. (is, at)))

period_is : (d : Data) → IfSome (period_of d) IsWithin
period_is d =
    and_then IsMoment IsWithin (part (codes "from") moment_of d) _ (part_is IsMoment (codes "from") moment_of d moment_is)
    (λ begin from. and_then IsMoment IsWithin (part (codes "to") moment_of d) _ (part_is IsMoment (codes "to") moment_of d moment_is)
    (λ until to. any_then IsWithin (part (codes "rate") number_of d) _ (λ rate. (from, to))))

one_more : {A : Type 0} (P : A → Type 0) (x : A) (o : Option (List A)) → P x → IfSome o (AllByRecursion P) → IfSome (option_map (λ xs. x ∷ xs) o) (AllByRecursion P)
one_more P x None is all = tt
one_more P x (Some xs) is all = (is, all)

each_is : {A : Type 0} (P : A → Type 0) (reading : Data → Option A) → ((d : Data) → IfSome (reading d) P) → (ds : Items) → IfSome (all_of reading ds) (AllByRecursion P)
each_is P reading is no_items = tt
each_is P reading is (item d ds) = and_then P (AllByRecursion P) (reading d) _ (is d) (λ x holds. one_more P x (all_of reading ds) holds (each_is P reading is ds))

via_is : (d : Data) → IfSome (via_of d) (AllByRecursion IsOver)
via_is d = any_then (AllByRecursion IsOver) (as_array d) (all_of crossing_of) (each_is IsOver crossing_of crossing_is)

periods_are : (d : Data) → IfSome (periods_of d) (AllByRecursion IsWithin)
periods_are d = any_then (AllByRecursion IsWithin) (as_array d) (all_of period_of) (each_is IsWithin period_of period_is)

-- plans and profiles
plan_checked : (plan : FlightPlan) (found : Option PlanFault) → plan_fault plan.key plan.eobt plan.taxi plan.via ≡ found → AllByRecursion IsOver plan.via → IfOk (checked_plan plan found) IsPlan
plan_checked plan (Some fault) is over = tt
plan_checked plan None is over = record {
  key = has_name plan.key plan.eobt plan.taxi plan.via is;
  valid = is_valid plan.key plan.eobt plan.taxi plan.via is;
  crossings = All-from_recursion IsOver plan.via over;
}

plan_is : (d : Data) → IfOk (plan_member d) IsPlan
unfolding plan_member
plan_is d =
    any_ok IsPlan _ (option_and_then as_str (get (codes "key") d)) _
    (λ key. any_ok IsPlan _ (option_and_then moment_of (get (codes "eobt") d)) _
    (λ eobt. any_ok IsPlan _ (option_and_then number_of (get (codes "taxi") d)) _
    (λ taxi. ok_then (AllByRecursion IsOver) IsPlan _ (option_and_then via_of (get (codes "via") d)) _ (part_is (AllByRecursion IsOver) (codes "via") via_of d via_is)
    (λ via over. any_ok IsPlan _ (status_of (get (codes "sts") d)) _
    (λ sts. plan_checked (record { key = key; eobt = eobt; taxi = taxi; via = via; sts = sts }) (plan_fault key eobt taxi via) refl over)))))

profile_checked : (periods : List Period) (found : Option ProfileFault) → profile_fault periods ≡ found → AllByRecursion IsWithin periods → IfOk (checked_profile periods found) IsProfileOfMoments
profile_checked periods (Some fault) is within = tt
profile_checked periods None is within = record {
  profile = is_profile periods is;
  moments = All-from_recursion IsWithin periods within;
}

profile_is : (d : Data) → IfOk (profile_member d) IsProfileOfMoments
unfolding profile_member
profile_is d =
    ok_then (AllByRecursion IsWithin) IsProfileOfMoments _ (option_and_then periods_of (get (codes "periods") d)) _ (part_is (AllByRecursion IsWithin) (codes "periods") periods_of d periods_are)
    (λ periods within. profile_checked periods (profile_fault periods) refl within)

-- the first of some names that a text is, as it is read itself
abbrev chain : {A : Type 0} → (Text → Option A) → List Text → Text → Option A
chain reading [] text = None
chain reading (name ∷ names) text = cond (bytes_eq text name) (reading name) (chain reading names text)

abbrev Makes : {A : Type 0} → (A → Result Call WireFault) → Option A → Type 0
Makes f o = IfOk (or_fault NoCommand o >>= f) IsSayable

one_of_both : {A : Type 0} (f : A → Result Call WireFault) (b : Bool) (one other : Option A) → Makes f one → Makes f other → Makes f (cond b one other)
one_of_both f true one other makes also = makes
one_of_both f false one other makes also = also

chain_is : {A : Type 0} (reading : Text → Option A) (f : A → Result Call WireFault) (names : List Text) (text : Text)
    → AllByRecursion (λ (name : Text). Makes f (reading name)) names → Makes f (chain reading names text)
chain_is reading f [] text all = tt
chain_is reading f (name ∷ names) text all = one_of_both f (bytes_eq text name) (reading name) (chain reading names text) all.0 (chain_is reading f names text all.1)

abbrev command_names : List Text
command_names =
    codes "file" ∷ codes "amend" ∷ codes "cancel" ∷ codes "revise" ∷ codes "exempt" ∷ codes "show" ∷ codes "open" ∷ codes "close"
    ∷ codes "rates" ∷ codes "list" ∷ codes "tick" ∷ codes "swap" ∷ []

-- the calls
module _ (d : Data) where
  named : (name : Text) (fault : WireFault) (f : Text → Result Call WireFault) → ((text : Text) → IsName text → IfOk (f text) IsSayable)
      → IfOk (or_fault fault (option_and_then name_of (get name d)) >>= f) IsSayable
  named name fault f next = ok_then IsName IsSayable fault (option_and_then name_of (get name d)) f (part_is IsName name name_of d name_is) next

  file_is : IfOk (file_call d) IsSayable
  unfolding file_call
  file_is = made IsPlan IsSayable (plan_member d) _ (plan_is d) (λ plan is. is)

  amend_is : IfOk (amend_call d) IsSayable
  unfolding amend_call
  amend_is = made IsPlan IsSayable (plan_member d) _ (plan_is d) (λ plan is. is)

  cancel_is : IfOk (cancel_call d) IsSayable
  unfolding cancel_call
  cancel_is = named (codes "key") _ _ (λ key is. is)

  revise_is : IfOk (revise_call d) IsSayable
  unfolding revise_call
  revise_is = named (codes "key") _ _ (λ key is. is)

  exempt_is : IfOk (exempt_call d) IsSayable
  unfolding exempt_call
  exempt_is = named (codes "key") _ _ (λ key is. is)

  show_is : IfOk (show_call d) IsSayable
  unfolding show_call
  show_is = named (codes "key") _ _ (λ key is. is)

  open_is : IfOk (open_call d) IsSayable
  unfolding open_call
  open_is =
      named (codes "reg") _ _ (λ reg is. named (codes "loc") _ _
      (λ loc at. made IsProfileOfMoments IsSayable (profile_member d) _ (profile_is d) (λ periods profile. (is, at, profile))))

  close_is : IfOk (close_call d) IsSayable
  unfolding close_call
  close_is = named (codes "reg") _ _ (λ reg is. is)

  rates_is : IfOk (rates_call d) IsSayable
  unfolding rates_call
  rates_is = named (codes "reg") _ _ (λ reg is. made IsProfileOfMoments IsSayable (profile_member d) _ (profile_is d) (λ periods profile. (is, profile)))

  list_is : IfOk (list_call d) IsSayable
  unfolding list_call
  list_is = named (codes "reg") _ _ (λ reg is. is)

  tick_is : IfOk (tick_call d) IsSayable
  unfolding tick_call
  tick_is = ok_then IsMoment IsSayable _ (option_and_then moment_of (get (codes "at") d)) _ (part_is IsMoment (codes "at") moment_of d moment_is) (λ at is. is)

  swap_is : IfOk (swap_call d) IsSayable
  unfolding swap_call
  swap_is = named (codes "key") _ _ (λ key is. named (codes "other") _ _ (λ other also. (is, also)))

  named_is : (text : Text) → IfOk (or_fault NoCommand (command_named text) >>= (λ command. call_of command d)) IsSayable
  named_is text =
      chain_is command_named (λ command. call_of command d) command_names text
      (file_is, (amend_is, (cancel_is, (revise_is, (exempt_is, (show_is, (open_is, (close_is, (rates_is, (list_is, (tick_is, (swap_is, tt))))))))))))

  of_text : (o : Option Text) → IfOk (or_fault NoCommand (option_and_then command_named o) >>= (λ command. call_of command d)) IsSayable
  of_text None = tt
  of_text (Some text) = named_is text

line_is : (line : List ℕ) → IfOk (line_call line) IsSayable
unfolding line_call
line_is line = any_ok IsSayable NotJson (line_value line) _ (λ d. of_text d (option_and_then as_str (get (codes "cmd") d)))

pub read_is_sayable : (line : List ℕ) (call : Call) → line_call line ≡ Ok call → IsSayable call
read_is_sayable line call is = subst (λ r. IfOk r IsSayable) is (line_is line)
