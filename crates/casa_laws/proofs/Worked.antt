-- worked examples, by computation: the decisive replies of short mornings, whose numbers were worked out by hand
use Rattle.std.specs.Prelude.{◌≡◌, ℕ, ◌+◌, ◌/◌, ◌%◌, List, [], ◌∷◌, ◌++◌, Bool, true, false, Option, None, Some, refl, codes, fold, map}
use Rattle.std.specs.List.{range_with_len}
use Rattle.casa_grid.specs.declared.period.Period.{Period}
use Rattle.casa_flight.specs.declared.call.Call.{Call}
use Rattle.casa_flight.specs.declared.call.Call.TheVariants.{File, Amend, Cancel, Revise, Exempt, OpenReg, CloseReg, Rates, Tick, Show, List as ListOf, Swap}
use Rattle.casa_flight.specs.declared.call.Refusal.TheVariants.{Duplicate, NoFlight, Late, AlreadyExempt, DuplicateRegulation, NoRegulation, TooManyRegulations, SpanChanged, BackInTime, NotIssued, OtherRegulation, TooEarly}
use Rattle.casa_filing.specs.declared.plan.Crossing.{Crossing}
use Rattle.casa_filing.specs.declared.plan.Sts.TheVariants.{Plain, Head}
use Rattle.casa_flight.specs.declared.reply.Answer.TheVariants.{Done, Flight, List as ListAnswer}
use Rattle.casa_flight.specs.declared.reply.Kind.TheVariants.{Pre, Issued, Forced}
use Rattle.casa_flight.specs.declared.reply.ListRow.{ListRow}
use Rattle.casa_flight.specs.declared.reply.Message.{Message}
use Rattle.casa_flight.specs.declared.reply.Message.TheVariants.{Sam, Srm, Slc}
use Rattle.casa_flight.specs.declared.reply.Reply.{Reply}
use Rattle.casa_flight.specs.declared.reply.Reply.TheVariants.{Refused, Answered}
use Rattle.casa_filing.specs.Text.{Text}
use Rattle.casa_filing.specs.FlightPlan.{FlightPlan}
use Rattle.casa_flight.specs.State.{empty}
use Rattle.casa_flight.specs.Steps.{next}
use Rattle.casa_flight.specs.Replies.{reply}

-- the reply to a call after these calls
abbrev after : List Call → Call → Reply
after calls call = reply (fold next empty calls) call

abbrev la : Text
la = codes "LA"

abbrev lb : Text
lb = codes "LB"

abbrev r1 : Text
r1 = codes "R1"

abbrev r2 : Text
r2 = codes "R2"

abbrev A : Text
A = codes "A"

abbrev B : Text
B = codes "B"

abbrev C : Text
C = codes "C"

abbrev X : Text
X = codes "X"

abbrev period : ℕ → ℕ → ℕ → List Period
period from until rate = record { begin = from; until = until; rate = rate } ∷ []

abbrev over : Text → ℕ → Crossing
over loc eto = record { loc = loc; eto = eto }

-- a plan with ten minutes of taxi
abbrev plan : Text → ℕ → List Crossing → FlightPlan
plan key eobt via = record { key = key; eobt = eobt; taxi = 600; via = via; sts = Plain }

abbrev file : Text → ℕ → List Crossing → Call
file key eobt via = File (plan key eobt via)

-- R1 has 10 slots, two minutes apart, over LA; R2 has 4 slots, five minutes apart, over LB
abbrev open1 : Call
open1 = OpenReg r1 la (period 36000 37200 30)

abbrev open2 : Call
open2 = OpenReg r2 lb (period 39600 40800 12)

abbrev pre : Text → ℕ → ℕ → Option ℕ → ListRow
pre key eto cto slot = record { key = key; eto = eto; cto = cto; kind = Pre; slot = slot }

abbrev issued : Text → ℕ → ℕ → Option ℕ → ListRow
issued key eto cto slot = record { key = key; eto = eto; cto = cto; kind = Issued; slot = slot }

abbrev forced : Text → ℕ → ℕ → ListRow
forced key eto cto = record { key = key; eto = eto; cto = cto; kind = Forced; slot = None }

abbrev listed1 : ℕ → ℕ → List ListRow → Reply
listed1 end slots rows =
    Answered (ListAnswer (record { reg = r1; loc = la; start = 36000; end = end; slots = slots; rows = rows })) []

abbrev listed2 : List ListRow → Reply
listed2 rows =
    Answered (ListAnswer (record { reg = r2; loc = lb; start = 39600; end = 40800; slots = 4; rows = rows })) []

abbrev flight : Text → ℕ → ℕ → Bool → Bool → Option Text → List Message → Reply
flight key eobt delay exempt issued reg messages =
    Answered (Flight (record {
      key = key;
      eobt = eobt;
      etot = eobt + 600;
      ctot = eobt + 600 + delay;
      delay = delay;
      exempt = exempt;
      issued = issued;
      reg = reg;
    })) messages

-- the flight that is planned earlier takes the slot, and the other moves to the next one
abbrev two : List Call
two = open1 ∷ file A 30000 (over la 36010 ∷ []) ∷ file B 30000 (over la 36005 ∷ []) ∷ []

two_listed : after two (ListOf r1) ≡ listed1 37200 10 (pre B 36005 36005 (Some 0) ∷ pre A 36010 36120 (Some 1) ∷ [])
two_listed = refl

two_issued : after two (Tick 22800) ≡ Answered Done (Sam A 30710 r1 ∷ Sam B 30600 r1 ∷ [])
two_issued = refl

-- of equal times over the smaller key comes first, in whatever order they are filed
abbrev B2 : Text
B2 = codes "BBB2"

abbrev A1 : Text
A1 = codes "AAA1"

abbrev tied : Reply
tied = listed1 37200 10 (pre A1 36010 36010 (Some 0) ∷ pre B2 36010 36120 (Some 1) ∷ [])

tied_one_way : after (open1 ∷ file B2 30000 (over la 36010 ∷ []) ∷ file A1 30000 (over la 36010 ∷ []) ∷ []) (ListOf r1) ≡ tied
tied_one_way = refl

tied_other_way : after (open1 ∷ file A1 30000 (over la 36010 ∷ []) ∷ file B2 30000 (over la 36010 ∷ []) ∷ []) (ListOf r1) ≡ tied
tied_other_way = refl

-- an issued slot is passed over
around_issued : after (open1 ∷ file C 20000 (over la 36130 ∷ []) ∷ Tick 12800 ∷ file A 30000 (over la 36010 ∷ []) ∷ file B 30000 (over la 36005 ∷ []) ∷ []) (ListOf r1)
    ≡ listed1 37200 10 (pre B 36005 36005 (Some 0) ∷ issued C 36130 36130 (Some 1) ∷ pre A 36010 36240 (Some 2) ∷ [])
around_issued = refl

-- three flights for two slots
abbrev three : List Call
three =
    OpenReg r1 la (period 36000 36240 30) ∷
    file A 30000 (over la 36010 ∷ []) ∷ file B 30000 (over la 36020 ∷ []) ∷ file C 30000 (over la 36030 ∷ []) ∷ []

three_listed : after three (ListOf r1) ≡ listed1 36240 2 (pre A 36010 36010 (Some 0) ∷ pre B 36020 36120 (Some 1) ∷ pre C 36030 36240 None ∷ [])
three_listed = refl

over_shown : after three (Show C) ≡ flight C 30000 210 false false (Some r1) []
over_shown = refl

-- a period of rate 0 at the begin puts a flight off, one at the end leaves it over
closed_first : after (OpenReg r1 la (period 36000 36600 0 ++ period 36600 37200 30) ∷ file A 30000 (over la 36100 ∷ []) ∷ []) (ListOf r1)
    ≡ listed1 37200 5 (pre A 36100 36600 (Some 0) ∷ [])
closed_first = refl

closed_last : after (OpenReg r1 la (period 36000 36600 30 ++ period 36600 37200 0) ∷ file A 30000 (over la 36700 ∷ []) ∷ []) (ListOf r1)
    ≡ listed1 37200 5 (pre A 36700 37200 None ∷ [])
closed_last = refl

-- the greater delay governs, and the flight is forced in the other list
abbrev P : Text
P = codes "P"

abbrev Q : Text
Q = codes "Q"

abbrev Y : Text
Y = codes "Y"

abbrev crossing_both : List Call
crossing_both =
    open1 ∷ open2 ∷ file P 30000 (over la 36005 ∷ []) ∷ file Q 30000 (over lb 39600 ∷ []) ∷
    file X 30000 (over la 36010 ∷ over lb 39600 ∷ []) ∷ file Y 30000 (over la 36020 ∷ []) ∷ []

both_shown : after crossing_both (Show X) ≡ flight X 30000 300 false false (Some r2) []
both_shown = refl

both_first : after crossing_both (ListOf r1)
    ≡ listed1 37200 10 (pre P 36005 36005 (Some 0) ∷ pre Y 36020 36120 (Some 1) ∷ forced X 36010 36310 ∷ [])
both_first = refl

both_second : after crossing_both (ListOf r2) ≡ listed2 (pre Q 39600 39600 (Some 0) ∷ pre X 39600 39900 (Some 1) ∷ [])
both_second = refl

-- of equal offers the smaller identifier governs
abbrev equal_offers : List Call
equal_offers = open1 ∷ open2 ∷ file X 30000 (over la 36010 ∷ over lb 39700 ∷ []) ∷ []

equal_first : after equal_offers (ListOf r1) ≡ listed1 37200 10 (pre X 36010 36010 (Some 0) ∷ [])
equal_first = refl

equal_second : after equal_offers (ListOf r2) ≡ listed2 (forced X 39700 39700 ∷ [])
equal_second = refl

-- a revision goes by take-off times, and may change the governing regulation
abbrev revised_over : List Call
revised_over =
    open1 ∷ open2 ∷ file A 10000 (over la 36005 ∷ []) ∷ file Q 10000 (over lb 39600 ∷ []) ∷
    file X 10000 (over la 36010 ∷ over lb 39850 ∷ []) ∷ []

revised_issue : after revised_over (Tick 2800) ≡ Answered Done (Sam A 10600 r1 ∷ Sam Q 10600 r2 ∷ Sam X 10710 r1 ∷ [])
revised_issue = refl

revised_earlier : after (revised_over ++ Tick 2800 ∷ Cancel A ∷ []) (Revise X) ≡ flight X 10000 50 false true (Some r2) (Srm X 10650 r2 ∷ [])
revised_earlier = refl

-- an exempt flight is forced without delay, takes no slot, and can't be exempted again
abbrev H : Text
H = codes "H"

abbrev file_head : Call
file_head = File (record (plan H 30000 (over la 36005 ∷ [])) { sts = Head })

head_filed : after three file_head ≡ flight H 30000 0 true false None []
head_filed = refl

head_listed : after (three ++ file_head ∷ []) (ListOf r1)
    ≡ listed1 36240 2 (forced H 36005 36005 ∷ pre A 36010 36010 (Some 0) ∷ pre B 36020 36120 (Some 1) ∷ pre C 36030 36240 None ∷ [])
head_listed = refl

head_exempted : after (three ++ file_head ∷ []) (Exempt H) ≡ Refused AlreadyExempt
head_exempted = refl

-- a flight is issued once, two hours ahead; the clock does not go back
abbrev one : List Call
one = open1 ∷ file A 30000 (over la 36010 ∷ []) ∷ []

not_yet : after one (Tick 22799) ≡ Answered Done []
not_yet = refl

now_due : after (one ++ Tick 22799 ∷ []) (Tick 22800) ≡ Answered Done (Sam A 30600 r1 ∷ [])
now_due = refl

only_once : after (one ++ Tick 22800 ∷ []) (Tick 22800) ≡ Answered Done []
only_once = refl

not_back : after (one ++ Tick 22800 ∷ []) (Tick 22799) ≡ Refused BackInTime
not_back = refl

-- a late filing is issued at once, behind an issued flight
late_filing : after (open1 ∷ file (codes "Z") 10000 (over la 36010 ∷ []) ∷ Tick 2800 ∷ []) (file (codes "E") 9000 (over la 36001 ∷ []))
    ≡ flight (codes "E") 9000 119 false true (Some r1) (Sam (codes "E") 9719 r1 ∷ [])
late_filing = refl

-- a cancelled flight leaves its slot to those behind it
pulled_up : after (three ++ Cancel A ∷ []) (ListOf r1) ≡ listed1 36240 2 (pre B 36020 36020 (Some 0) ∷ pre C 36030 36120 (Some 1) ∷ [])
pulled_up = refl

cancelled_twice : after (three ++ Cancel A ∷ []) (Cancel A) ≡ Refused NoFlight
cancelled_twice = refl

-- new rates keep issued times and place the others anew
abbrev rated : List Call
rated = open1 ∷ file (codes "Z") 10000 (over la 36120 ∷ []) ∷ Tick 2800 ∷ file (codes "F") 30000 (over la 36005 ∷ []) ∷ []

rated_done : after rated (Rates r1 (period 36000 37200 15)) ≡ Answered Done []
rated_done = refl

rated_listed : after (rated ++ Rates r1 (period 36000 37200 15) ∷ []) (ListOf r1)
    ≡ listed1 37200 5 (issued (codes "Z") 36120 36120 (Some 0) ∷ pre (codes "F") 36005 36240 (Some 1) ∷ [])
rated_listed = refl

rated_shorter : after rated (Rates r1 (period 36000 36900 15)) ≡ Refused SpanChanged
rated_shorter = refl

-- a later end takes in the flights that it reaches and that nothing governs: E is due and issued at once, D waits. The
-- issued time of C, at the old end, blocks the slot that lies there now
abbrev D : Text
D = codes "D"

abbrev E : Text
E = codes "E"

abbrev short : List Call
short =
    OpenReg r1 la (period 36000 36240 30) ∷
    file A 30000 (over la 36010 ∷ []) ∷ file B 30000 (over la 36020 ∷ []) ∷ file C 10000 (over la 36030 ∷ []) ∷ []

short_issued : after short (Tick 2800) ≡ Answered Done (Sam C 10810 r1 ∷ [])
short_issued = refl

abbrev beyond : List Call
beyond = short ++ Tick 2800 ∷ file D 30000 (over la 36300 ∷ []) ∷ file E 10000 (over la 36400 ∷ []) ∷ []

beyond_waits : after beyond (Show E) ≡ flight E 10000 0 false false None []
beyond_waits = refl

abbrev later : Call
later = Rates r1 (period 36000 36600 30)

ends_later : after beyond later ≡ Answered Done (Sam E 10680 r1 ∷ [])
ends_later = refl

later_listed : after (beyond ++ later ∷ []) (ListOf r1)
    ≡ listed1 36600 5 (pre A 36010 36010 (Some 0) ∷ pre B 36020 36120 (Some 1) ∷ issued C 36030 36240 (Some 2) ∷ pre D 36300 36360 (Some 3) ∷ issued E 36400 36480 (Some 4) ∷ [])
later_listed = refl

-- then the old end is too early, and another start is none of it
later_back : after (beyond ++ later ∷ []) (Rates r1 (period 36000 36240 30)) ≡ Refused SpanChanged
later_back = refl

later_elsewhere : after (beyond ++ later ∷ []) (Rates r1 (period 36060 36600 30)) ≡ Refused SpanChanged
later_elsewhere = refl

-- with the end that the regulation has nobody enters, and no message comes
same_end : after beyond (Rates r1 (period 36000 36240 15)) ≡ Answered Done []
same_end = refl

same_end_waits : after (beyond ++ Rates r1 (period 36000 36240 15) ∷ []) (Show E) ≡ flight E 10000 0 false false None []
same_end_waits = refl

same_later_end : after (beyond ++ later ∷ []) (Rates r1 (period 36000 36600 15)) ≡ Answered Done []
same_later_end = refl

-- a flight that is governed elsewhere is forced where the later end reaches it, and keeps its regulation
abbrev elsewhere : List Call
elsewhere = beyond ++ open2 ∷ file Q 30000 (over lb 39600 ∷ []) ∷ file X 30000 (over la 36250 ∷ over lb 39600 ∷ []) ∷ []

elsewhere_later : after elsewhere later ≡ Answered Done (Sam E 10680 r1 ∷ [])
elsewhere_later = refl

elsewhere_shown : after (elsewhere ++ later ∷ []) (Show X) ≡ flight X 30000 300 false false (Some r2) []
elsewhere_shown = refl

elsewhere_listed : after (elsewhere ++ later ∷ []) (ListOf r1)
    ≡ listed1 36600 5 (pre A 36010 36010 (Some 0) ∷ pre B 36020 36120 (Some 1) ∷ issued C 36030 36240 (Some 2) ∷ pre D 36300 36360 (Some 3) ∷ issued E 36400 36480 (Some 4) ∷ forced X 36250 36550 ∷ [])
elsewhere_listed = refl

-- a revision takes an earlier slot that became free, and then holds no better one
abbrev freed : List Call
freed = open1 ∷ file A 10000 (over la 36005 ∷ []) ∷ file B 10000 (over la 36010 ∷ []) ∷ Tick 2800 ∷ Cancel A ∷ []

freed_kept : after freed (Show B) ≡ flight B 10000 110 false true (Some r1) []
freed_kept = refl

freed_taken : after freed (Revise B) ≡ flight B 10000 0 false true (Some r1) (Srm B 10600 r1 ∷ [])
freed_taken = refl

freed_again : after (freed ++ Revise B ∷ []) (Revise B) ≡ flight B 10000 0 false true (Some r1) []
freed_again = refl

-- closing takes the slot away
closing : after (freed ++ Revise B ∷ []) (CloseReg r1) ≡ Answered Done (Slc B ∷ [])
closing = refl

closed_shown : after (freed ++ Revise B ∷ CloseReg r1 ∷ []) (Show B) ≡ flight B 10000 0 false false None []
closed_shown = refl

closed_twice : after (freed ++ Revise B ∷ CloseReg r1 ∷ []) (CloseReg r1) ≡ Refused NoRegulation
closed_twice = refl

-- an amendment gives the slot back, and so does an exemption
abbrev amended : List Call
amended = open1 ∷ file A 10000 (over la 36005 ∷ []) ∷ Tick 2800 ∷ []

amended_later : after amended (Amend (plan A 20000 (over la 36605 ∷ []))) ≡ flight A 20000 0 false false (Some r1) (Slc A ∷ [])
amended_later = refl

after_amended : after (amended ++ Amend (plan A 20000 (over la 36605 ∷ [])) ∷ []) (file B 10000 (over la 36005 ∷ []))
    ≡ flight B 10000 0 false true (Some r1) (Sam B 10600 r1 ∷ [])
after_amended = refl

exempted : after (amended ++ Amend (plan A 20000 (over la 36605 ∷ [])) ∷ file B 10000 (over la 36005 ∷ []) ∷ []) (Exempt B)
    ≡ flight B 10000 0 true false None (Slc B ∷ [])
exempted = refl

-- two issued flights exchange their times: P holds slot 0, A slot 1 and B slot 2
abbrev F : Text
F = codes "F"

abbrev Z : Text
Z = codes "Z"

abbrev filed : List Call
filed = open1 ∷ file P 10000 (over la 36001 ∷ []) ∷ file A 10000 (over la 36002 ∷ []) ∷ file B 10000 (over la 36003 ∷ []) ∷ []

filed_issued : after filed (Tick 2800) ≡ Answered Done (Sam A 10718 r1 ∷ Sam B 10837 r1 ∷ Sam P 10600 r1 ∷ [])
filed_issued = refl

abbrev held : List Call
held = filed ++ Tick 2800 ∷ []

swapped : after held (Swap A B) ≡ Answered Done (Srm A 10838 r1 ∷ Srm B 10717 r1 ∷ [])
swapped = refl

swapped_other_way : after held (Swap B A) ≡ Answered Done (Srm A 10838 r1 ∷ Srm B 10717 r1 ∷ [])
swapped_other_way = refl

swapped_back : after (held ++ Swap A B ∷ []) (Swap A B) ≡ Answered Done (Srm A 10718 r1 ∷ Srm B 10837 r1 ∷ [])
swapped_back = refl

-- nobody else moves
swapped_listed : after (held ++ file F 30000 (over la 36300 ∷ []) ∷ Swap A B ∷ []) (ListOf r1)
    ≡ listed1 37200 10 (issued P 36001 36001 (Some 0) ∷ issued B 36003 36120 (Some 1) ∷ issued A 36002 36240 (Some 2) ∷ pre F 36300 36360 (Some 3) ∷ [])
swapped_listed = refl

-- each gets exactly the other's time, also within a slot: E that of Z, 36010, which is later than its own time over
swapped_inside : after (open1 ∷ file Z 10000 (over la 36010 ∷ []) ∷ Tick 2800 ∷ file (codes "E") 9000 (over la 36001 ∷ []) ∷ []) (Swap (codes "E") Z)
    ≡ Answered Done (Srm (codes "E") 9609 r1 ∷ Srm Z 10710 r1 ∷ [])
swapped_inside = refl

-- a flight with itself
swapped_alone : after held (Swap A A) ≡ Answered Done []
swapped_alone = refl

swapped_alone_early : after (held ++ Tick 10719 ∷ []) (Swap A A) ≡ Refused TooEarly
swapped_alone_early = refl

-- whom it is refused to, in the order of the refusals: one that is not there, one that is not issued, one of another
-- regulation, one that would pass before its time over or leave before the clock
abbrev waiting : List Call
waiting = held ++ file F 30000 (over la 36300 ∷ []) ∷ open2 ∷ file Q 10000 (over lb 39600 ∷ []) ∷ []

swap_nobody : after waiting (Swap A Z) ≡ Refused NoFlight
swap_nobody = refl

swap_from_nobody : after waiting (Swap Z F) ≡ Refused NoFlight
swap_from_nobody = refl

swap_waiting : after waiting (Swap A F) ≡ Refused NotIssued
swap_waiting = refl

swap_waiting_elsewhere : after waiting (Swap F Q) ≡ Refused NotIssued
swap_waiting_elsewhere = refl

swap_waiting_alone : after waiting (Swap F F) ≡ Refused NotIssued
swap_waiting_alone = refl

swap_elsewhere : after waiting (Swap A Q) ≡ Refused OtherRegulation
swap_elsewhere = refl

swap_elsewhere_early : after (waiting ++ Tick 10839 ∷ []) (Swap A Q) ≡ Refused OtherRegulation
swap_elsewhere_early = refl

swap_before_eto : after waiting (Swap P A) ≡ Refused TooEarly
swap_before_eto = refl

swap_before_eto_of_other : after waiting (Swap A P) ≡ Refused TooEarly
swap_before_eto_of_other = refl

swap_at_the_clock : after (waiting ++ Swap A B ∷ Tick 10718 ∷ []) (Swap A B) ≡ Answered Done (Srm A 10718 r1 ∷ Srm B 10837 r1 ∷ [])
swap_at_the_clock = refl

swap_before_the_clock : after (waiting ++ Swap A B ∷ Tick 10719 ∷ []) (Swap A B) ≡ Refused TooEarly
swap_before_the_clock = refl

-- refusals in their order
abbrev L : Text
L = codes "L"

late : after (Tick 20000 ∷ []) (file L 19999 []) ≡ Refused Late
late = refl

in_time : after (Tick 20000 ∷ []) (file L 20000 []) ≡ flight L 20000 0 false false None []
in_time = refl

late_twice : after (Tick 20000 ∷ file L 20000 [] ∷ []) (file L 19999 []) ≡ Refused Duplicate
late_twice = refl

late_nobody : after (Tick 20000 ∷ file L 20000 [] ∷ []) (Amend (plan (codes "M") 19999 [])) ≡ Refused NoFlight
late_nobody = refl

late_amended : after (Tick 20000 ∷ file L 20000 [] ∷ []) (Amend (plan L 19999 [])) ≡ Refused Late
late_amended = refl

opened_twice : after (open1 ∷ []) open1 ≡ Refused DuplicateRegulation
opened_twice = refl

no_list : after (open1 ∷ []) (ListOf r2) ≡ Refused NoRegulation
no_list = refl

no_rates : after (open1 ∷ []) (Rates r2 (period 36000 37200 15)) ≡ Refused NoRegulation
no_rates = refl

-- 256 regulations, and no more: R001 to R256
abbrev id : ℕ → Text
id n = 82 ∷ (48 + n / 100) ∷ (48 + n / 10 % 10) ∷ (48 + n % 10) ∷ []

abbrev all_open : List Call
all_open = map (λ n. OpenReg (id n) la (period 36000 37200 30)) (range_with_len 1 256)

one_too_many : after all_open (OpenReg (id 257) la (period 36000 37200 30)) ≡ Refused TooManyRegulations
one_too_many = refl

open_already : after all_open (OpenReg (id 1) la (period 36000 37200 30)) ≡ Refused DuplicateRegulation
open_already = refl
