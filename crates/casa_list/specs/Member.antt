-- inner contracts: how a flight of a list lies in memory
use Rattle.std.specs.Prelude.{◌≡◌, ℕ, refl}
use Rattle.casa_flight.specs.declared.reply.Kind.{Kind}
use Rattle.casa_flight.specs.declared.reply.Kind.TheVariants.{Pre, Issued as IssuedKind, Forced as ForcedKind}
use Rattle.casa_flight.specs.declared.row.Stance.{Stance}
use Rattle.casa_flight.specs.declared.row.Stance.TheVariants.{Competing, Issued, Forced}
use Rattle.casa_flight.specs.Listing.{eto_as}
use Rattle.casa_flight.specs.Replies.{kind_of}
use Rattle.casa_list.specs.declared.member.Member.TheInside.{Inside}

-- how a flight of this kind stands, with these times over
abbrev pub stance_as : Kind → ℕ → ℕ → Stance
stance_as Pre eto cto = Competing eto
stance_as IssuedKind eto cto = Issued eto cto
stance_as ForcedKind eto cto = Forced eto

-- the second time that is kept of a flight: its calculated time over, and the estimated one again where it is not issued
abbrev pub time_kept : Stance → ℕ
time_kept (Competing eto) = eto
time_kept (Issued eto cto) = cto
time_kept (Forced eto) = eto

abbrev pub IsMember : Inside → Type 0
IsMember m = time_kept (stance_as m.kind m.eto m.cto) ≡ m.cto

kind_stays : (k : Kind) (eto cto : ℕ) → kind_of (stance_as k eto cto) ≡ k
kind_stays Pre eto cto = refl
kind_stays IssuedKind eto cto = refl
kind_stays ForcedKind eto cto = refl

eto_stays : (k : Kind) (eto cto : ℕ) → eto_as (stance_as k eto cto) ≡ eto
eto_stays Pre eto cto = refl
eto_stays IssuedKind eto cto = refl
eto_stays ForcedKind eto cto = refl

pub same_member : (m : Inside) → IsMember m
    → record { key = m.key; kind = kind_of (stance_as m.kind m.eto m.cto); eto = eto_as (stance_as m.kind m.eto m.cto); cto = time_kept (stance_as m.kind m.eto m.cto) } ≡ m
same_member m h = λ i. record { key = m.key; kind = kind_stays m.kind m.eto m.cto i; eto = eto_stays m.kind m.eto m.cto i; cto = h i }
