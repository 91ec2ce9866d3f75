-- the day after a date is the one with the next day number
use Rattle.std.proofs.Common.{◌≡◌, ◌∙◌, sym, ap, refl, inl, inr, ◌+◌, ◌<◌, arith, rules, ℤ, pos, ◌+ℤ◌, ◌<ℤ◌, ◌≤ℤ◌, Bool, true, false}
use Rattle.std.specs.Prelude.{nat_lt, if◌then◌else◌}
use Rattle.std.specs.Ordering.{int_eq}
use Rattle.std.proofs.lemmas.Bool.{cases_order, le-ltb, lt-ltb}
use Rattle.std.proofs.lemmas.Bool.Decides.{Decides-int_eq}
use Rattle.std.proofs.lemmas.Int.{by_lt_z}
use Rattle.jiff_core.specs.declared.civil.date.Date.{Date}
use Rattle.jiff_core.specs.Calendar.{days_from_civil, days_in_month}
use Rattle.jiff_core.specs.Date.{epoch_day}
use Rattle.jiff_core.proofs.SignedLemmas.{signed_arith}
use Rattle.jiff_core.proofs.CalendarLemmas.{days_in_month_bounds}
use Rattle.jiff_core.proofs.DateLemmas.{days_from_civil-day, days_from_civil-max, days_from_civil-next_month, days_from_civil-next_year, epoch_day_injective, epoch_day_range}
use Rattle.casa_report.specs.Moments.{CalendarDay, calendar_day, next_day}

-- the next day, by three tests: within a month, within a year, and in the last year
abbrev chosen : Bool → Bool → Bool → CalendarDay → CalendarDay
chosen in_month in_year in_last d =
    if in_month then record d { day = d.day + 1 }
    else (if in_year then record d { month = d.month + 1; day = 1 }
    else (if in_last then d else record { year = d.year +ℤ pos 1; month = 1; day = 1 }))

next_in_month : (d : CalendarDay) → d.day < days_in_month d.year d.month → next_day d ≡ record d { day = d.day + 1 }
next_in_month d lt =
    ap (λ (b : Bool). chosen b (nat_lt d.month 12) (int_eq d.year (pos 9999)) d) (lt-ltb d.day (days_in_month d.year d.month) lt)

next_in_year : (d : CalendarDay) → d.day ≡ days_in_month d.year d.month → d.month < 12 → next_day d ≡ record d { month = d.month + 1; day = 1 }
next_in_year d last lt =
    ap (λ (b : Bool). chosen b (nat_lt d.month 12) (int_eq d.year (pos 9999)) d) (le-ltb d.day (days_in_month d.year d.month) (omega (arith, last)))
    ∙ ap (λ (b : Bool). chosen false b (int_eq d.year (pos 9999)) d) (lt-ltb d.month 12 lt)

not_last : (y : ℤ) (b : Bool) → y <ℤ pos 9999 → (b ≡ true → y ≡ pos 9999)
    → chosen false false b (record { year = y; month = 12; day = 31 }) ≡ record { year = y +ℤ pos 1; month = 1; day = 1 }
not_last y true lt e = absurd (omega (arith, signed_arith, lt, e refl))
not_last y false lt e = refl

next_year : (y : ℤ) → y <ℤ pos 9999 → next_day (record { year = y; month = 12; day = 31 }) ≡ record { year = y +ℤ pos 1; month = 1; day = 1 }
next_year y lt = not_last y (int_eq y (pos 9999)) lt (Decides-int_eq y (pos 9999)).0

-- dates with one day number are one day
same_parts : (a b : Date) → (a.year ≡ b.year) × (a.month ≡ b.month) × (a.day ≡ b.day) → calendar_day a ≡ calendar_day b
same_parts a b (year, month, day) = λ i. record { year = year i; month = month i; day = day i }

same_day : (a b : Date) → epoch_day a ≡ epoch_day b → calendar_day a ≡ calendar_day b
same_day a b e = same_parts a b (epoch_day_injective a b e)

in_month : (d n : Date) → d.day < days_in_month d.year d.month → epoch_day n ≡ epoch_day d +ℤ pos 1 → calendar_day n ≡ next_day (calendar_day d)
in_month d n lt h =
    let next : Date = record { year = d.year; month = d.month; day = d.day + 1; year_in = d.year_in; month_in = d.month_in; day_in = (omega arith, omega arith) } in
    let is : epoch_day next ≡ epoch_day d +ℤ pos 1 = omega (arith, signed_arith, days_from_civil-day d.year d.month (d.day + 1) d.day (omega arith) d.day_in.0) in
    same_day n next (h ∙ sym is) ∙ sym (next_in_month (calendar_day d) lt)

in_year : (d n : Date) → d.day ≡ days_in_month d.year d.month → d.month < 12 → epoch_day n ≡ epoch_day d +ℤ pos 1 → calendar_day n ≡ next_day (calendar_day d)
in_year d n last lt h =
    let long = days_in_month_bounds d.year (d.month + 1) in
    let next : Date = record { year = d.year; month = d.month + 1; day = 1; year_in = d.year_in; month_in = (omega arith, omega arith); day_in = (omega arith, omega arith) } in
    same_day n next (h ∙ sym (days_from_civil-next_month d.year d.month d.day d.month_in.0 last)) ∙ sym (next_in_year (calendar_day d) last lt)

-- the last day of a year
year_end : (d : Date) → d.day ≡ days_in_month d.year d.month → d.month ≡ 12 → calendar_day d ≡ record { year = d.year; month = 12; day = 31 }
year_end d last december = λ i. record { year = d.year; month = december i; day = (last ∙ ap (days_in_month d.year) december) i }

over_year : (d n : Date) → calendar_day d ≡ record { year = d.year; month = 12; day = 31 } → d.year <ℤ pos 9999 → epoch_day n ≡ epoch_day d +ℤ pos 1 → calendar_day n ≡ next_day (calendar_day d)
over_year d n end lt h =
    let next : Date = record { year = d.year +ℤ pos 1; month = 1; day = 1; year_in = (omega (arith, signed_arith, d.year_in.0), omega (arith, signed_arith)); month_in = (omega arith, omega arith); day_in = (omega arith, omega (arith, days_in_month_bounds (d.year +ℤ pos 1) 1)) } in
    let of_day : epoch_day d ≡ days_from_civil d.year 12 31 = ap (λ (c : CalendarDay). days_from_civil c.year c.month c.day) end in
    let is : epoch_day next ≡ days_from_civil d.year 12 31 +ℤ pos 1 = days_from_civil-next_year d.year (d.year +ℤ pos 1) (omega (arith, signed_arith, d.year_in.0)) refl in
    same_day n next (h ∙ ap (λ z. z +ℤ pos 1) of_day ∙ sym is) ∙ sym (ap next_day end ∙ next_year d.year lt)

no_next : (d n : Date) → calendar_day d ≡ record { year = d.year; month = 12; day = 31 } → pos 9999 ≤ℤ d.year → epoch_day n ≡ epoch_day d +ℤ pos 1 → calendar_day n ≡ next_day (calendar_day d)
no_next d n end ge h =
    let is : d.year ≡ pos 9999 = omega (arith, signed_arith, d.year_in.1) in
    let top : epoch_day d ≡ pos 2_932_896 =
    ap (λ (c : CalendarDay). days_from_civil c.year c.month c.day) end ∙ ap (λ y. days_from_civil y 12 31) is ∙ days_from_civil-max in
    absurd (omega (arith, signed_arith, (epoch_day_range n).1, h, top))

at_end : (d n : Date) → d.day ≡ days_in_month d.year d.month → epoch_day n ≡ epoch_day d +ℤ pos 1 → calendar_day n ≡ next_day (calendar_day d)
at_end d n last h =
    elim (cases_order d.month 12) [
      | inr (inl lt) ↦ in_year d n last lt h
      | inl december ↦ by_lt_z d.year (pos 9999) (λ lt. over_year d n (year_end d last december) lt h) (λ ge. no_next d n (year_end d last december) ge h)
      | inr (inr gt) ↦ absurd (omega (arith, d.month_in.1))
    ]

-- the date with the next day number is the next day
pub next_is : (d n : Date) → epoch_day n ≡ epoch_day d +ℤ pos 1 → calendar_day n ≡ next_day (calendar_day d)
next_is d n h =
    elim (cases_order d.day (days_in_month d.year d.month)) [
      | inr (inl lt) ↦ in_month d n lt h
      | inl last ↦ at_end d n last h
      | inr (inr gt) ↦ absurd (omega (arith, d.day_in.1))
    ]

stays : (d : Date) → pos 2_932_896 ≤ℤ epoch_day d → calendar_day d ≡ next_day (calendar_day d)
stays d ge =
    let last : Date = record { year = pos 9999; month = 12; day = 31; year_in = search rules; month_in = search rules; day_in = search rules } in
    let top : epoch_day d ≡ pos 2_932_896 = omega (arith, signed_arith, (epoch_day_range d).1) in
    let same : calendar_day d ≡ record { year = pos 9999; month = 12; day = 31 } = same_day d last (top ∙ sym days_from_civil-max) in
    same ∙ sym (ap next_day same)

impossible : {P : Type 0} → false ≡ true → P
impossible e = absurd (cc)

-- the last date stands for itself
pub last_stays : (d : Date) → (epoch_day d <ℤ pos 2_932_896 → false ≡ true) → calendar_day d ≡ next_day (calendar_day d)
last_stays d never = by_lt_z (epoch_day d) (pos 2_932_896) (λ lt. impossible (never lt)) (λ ge. stays d ge)
