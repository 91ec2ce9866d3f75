-- data that are written as they are: texts that can be seen, numbers of 64 bits, members in the order of their names
use Rattle.std.proofs.Common.{◌≡◌, ℕ, zero, suc, ◌^◌, ◌<◌, List, [], ◌∷◌, Bool, true, ◌&&◌, Ordering, Less, Equal, Greater, nat_cmp, refl, ap, ◌∙◌}
use Rattle.std.specs.Prelude.{nat_le, not, ◌==◌}
use Rattle.std.specs.List.{list_all, AllByRecursion}
use Rattle.std.specs.Ordering.{match_ordering, ordering_reverse}
use Rattle.std.specs.Cmp.Lexicographic.{slice_cmp}
use Rattle.std.proofs.lemmas.Cmp.{nat_list_cmp_total}
use Rattle.serde_json.specs.Data.{Data, null, boolean, number, string, array, object, unsigned, negative, float, Items, no_items, item, Members, no_members, member, put}
use Rattle.casa_filing.specs.Text.{Text}
use Rattle.casa_lines.specs.Lines.{Member, members_with, object_with}

abbrev pub is_seen : ℕ → Bool
is_seen b = nat_le 32 b && nat_le b 126

abbrev pub are_seen : List ℕ → Bool
are_seen bytes = list_all is_seen bytes

-- a byte that can be seen and stands for itself in a JSON string
abbrev pub is_plain : ℕ → Bool
is_plain b = is_seen b && (not (b == 34) && not (b == 92))

abbrev pub are_plain : List ℕ → Bool
are_plain bytes = list_all is_plain bytes

-- a name is before those of all members
abbrev pub IsBefore : Text → Members → Type 0
IsBefore k no_members = Unit {0}
IsBefore k (member l e ms) = (slice_cmp nat_cmp k l ≡ Less) × IsBefore k ms

abbrev pub AreOrdered : Members → Type 0
AreOrdered no_members = Unit {0}
AreOrdered (member k d ms) = IsBefore k ms × AreOrdered ms

-- data of this kind that nest so deep at most
abbrev mutual
  pub IsPlain : ℕ → Data → Type 0
  IsPlain n null = Unit {0}
  IsPlain n (boolean b) = Unit {0}
  IsPlain n (number (unsigned x)) = x < 2 ^ 64
  IsPlain n (number (negative z)) = ⊥
  IsPlain n (number (float x)) = ⊥
  IsPlain n (string s) = are_plain s ≡ true
  IsPlain zero (array ds) = ⊥
  IsPlain (suc n) (array ds) = ArePlainItems n ds
  IsPlain zero (object ms) = ⊥
  IsPlain (suc n) (object ms) = ArePlainMembers n ms × AreOrdered ms

  pub ArePlainItems : ℕ → Items → Type 0
  ArePlainItems n no_items = Unit {0}
  ArePlainItems n (item d ds) = IsPlain n d × ArePlainItems n ds

  pub ArePlainMembers : ℕ → Members → Type 0
  ArePlainMembers n no_members = Unit {0}
  ArePlainMembers n (member k d ms) = (are_plain k ≡ true) × IsPlain n d × ArePlainMembers n ms

put_plain_at : (o : Ordering) (n : ℕ) (k : Text) (d : Data) (l : Text) (e : Data) (ms : Members) → are_plain k ≡ true → IsPlain n d → ArePlainMembers n (member l e ms) → ArePlainMembers n (put k d ms)
    → ArePlainMembers n (match_ordering o (member k d (member l e ms)) (member l d ms) (member l e (put k d ms)))
put_plain_at Less n k d l e ms name is all later = (name, is, all)
put_plain_at Equal n k d l e ms name is all later = (all.0, is, all.2)
put_plain_at Greater n k d l e ms name is all later = (all.0, all.1, later)

put_plain : (n : ℕ) (k : Text) (d : Data) (ms : Members) → are_plain k ≡ true → IsPlain n d → ArePlainMembers n ms → ArePlainMembers n (put k d ms)
put_plain n k d no_members name is all = (name, is, tt)
put_plain n k d (member l e ms) name is all = put_plain_at (slice_cmp nat_cmp k l) n k d l e ms name is all (put_plain n k d ms name is all.2)

before_put_at : (o : Ordering) (q k : Text) (d : Data) (l : Text) (e : Data) (ms : Members) → slice_cmp nat_cmp q k ≡ Less → IsBefore q (member l e ms) → IsBefore q (put k d ms)
    → IsBefore q (match_ordering o (member k d (member l e ms)) (member l d ms) (member l e (put k d ms)))
before_put_at Less q k d l e ms first all later = (first, all)
before_put_at Equal q k d l e ms first all later = all
before_put_at Greater q k d l e ms first all later = (all.0, later)

before_put : (q k : Text) (d : Data) (ms : Members) → slice_cmp nat_cmp q k ≡ Less → IsBefore q ms → IsBefore q (put k d ms)
before_put q k d no_members first all = (first, tt)
before_put q k d (member l e ms) first all = before_put_at (slice_cmp nat_cmp k l) q k d l e ms first all (before_put q k d ms first all.1)

before_more : (k l : Text) (ms : Members) → slice_cmp nat_cmp k l ≡ Less → IsBefore l ms → IsBefore k ms
before_more k l no_members first all = tt
before_more k l (member m e ms) first all = (nat_list_cmp_total.trans k l m first all.0, before_more k l ms first all.1)

put_ordered_at : (o : Ordering) (k : Text) (d : Data) (l : Text) (e : Data) (ms : Members) → slice_cmp nat_cmp k l ≡ o → AreOrdered (member l e ms) → AreOrdered (put k d ms)
    → AreOrdered (match_ordering o (member k d (member l e ms)) (member l d ms) (member l e (put k d ms)))
put_ordered_at Less k d l e ms is all later = ((is, before_more k l ms is all.0), all)
put_ordered_at Equal k d l e ms is all later = all
put_ordered_at Greater k d l e ms is all later = (before_put l k d ms (nat_list_cmp_total.antisymm l k ∙ ap ordering_reverse is) all.0, later)

put_ordered : (k : Text) (d : Data) (ms : Members) → AreOrdered ms → AreOrdered (put k d ms)
put_ordered k d no_members all = (tt, tt)
put_ordered k d (member l e ms) all = put_ordered_at (slice_cmp nat_cmp k l) k d l e ms refl all (put_ordered k d ms all.1)

-- members with plain names and data
abbrev pub ArePlain : ℕ → List Member → Type 0
ArePlain n members = AllByRecursion (λ (m : Member). (are_plain m.0 ≡ true) × IsPlain n m.1) members

members_plain : (n : ℕ) (members : List Member) → ArePlain n members → ArePlainMembers n (members_with members) × AreOrdered (members_with members)
members_plain n [] all = (tt, tt)
members_plain n (m ∷ ms) all =
    let rest = members_plain n ms all.1 in
    (put_plain n m.0 m.1 (members_with ms) all.0.0 all.0.1 rest.0, put_ordered m.0 m.1 (members_with ms) rest.1)

pub object_plain : (n : ℕ) (members : List Member) → ArePlain n members → IsPlain (suc n) (object_with members)
object_plain n members all = members_plain n members all
