-- the text of plain data is read as these data
use Rattle.std.proofs.Common.{◌≡◌, ℕ, zero, suc, ◌≤◌, ◌++◌, [], List, Less, Greater, nat_cmp, Option, Some, refl, sym, ◌∙◌, ap, subst, arith, append-nil}
use Rattle.std.specs.Prelude.{option_and_then}
use Rattle.std.specs.Ordering.{ordering_reverse}
use Rattle.std.specs.Cmp.Lexicographic.{slice_cmp}
use Rattle.std.proofs.lemmas.Cmp.{nat_list_cmp_total}
use Rattle.json.specs.Json as json
use Rattle.json.specs.Token.{Token}
use Rattle.json.specs.Lex.{tokens}
use Rattle.json.specs.Tree as tree
use Rattle.json.proofs.Printed.Trees.{ArePrintable-json_tokens, value-json_tokens}
use Rattle.json.proofs.Printed.Tokens.{tokens-print}
use Rattle.json.proofs.Printed.Decimals.{IsNumber-decimal}
use Rattle.serde_json.specs.Data.{Data, null, boolean, number, string, array, object, unsigned, negative, float, Items, no_items, item, Members, no_members, member, put}
use Rattle.serde_json.specs.Read.{read, of_json, of_items, of_members, max_depth}
use Rattle.serde_json.specs.Written.{outline, items_outline, members_outline, compact_text}
use Rattle.serde_json.proofs.Texts.{print-outline}
use Rattle.serde_json.proofs.Numbers.{number_of-decimal}
use Rattle.casa_filing.specs.Text.{Text}
use Rattle.casa_wire.specs.Commands.{line_value}
use Rattle.casa_lines.proofs.Plain.{IsBefore, AreOrdered, IsPlain, ArePlainItems, ArePlainMembers}
use Rattle.casa_lines.proofs.Seen.{data_utf8}

mutual
  numbers : (n : ℕ) (d : Data) → IsPlain n d → tree.HasNumbers (outline d)
  numbers n null is = tt
  numbers n (boolean b) is = tt
  numbers n (number (unsigned x)) is = IsNumber-decimal x is
  numbers n (number (negative z)) is = absurd is
  numbers n (number (float x)) is = absurd is
  numbers n (string s) is = tt
  numbers zero (array ds) is = absurd is
  numbers (suc n) (array ds) is = items_numbers n ds is
  numbers zero (object ms) is = absurd is
  numbers (suc n) (object ms) is = members_numbers n ms is.0

  items_numbers : (n : ℕ) (ds : Items) → ArePlainItems n ds → tree.ItemsHaveNumbers (items_outline ds)
  items_numbers n no_items is = tt
  items_numbers n (item d ds) is = (numbers n d is.0, items_numbers n ds is.1)

  members_numbers : (n : ℕ) (ms : Members) → ArePlainMembers n ms → tree.MembersHaveNumbers (members_outline ms)
  members_numbers n no_members is = tt
  members_numbers n (member k d ms) is = (numbers n d is.1, members_numbers n ms is.2)

mutual
  shallow : (n : ℕ) (d : Data) → IsPlain n d → tree.depth (outline d) ≤ n
  shallow n null is = omega arith
  shallow n (boolean b) is = omega arith
  shallow n (number x) is = omega arith
  shallow n (string s) is = omega arith
  shallow zero (array ds) is = absurd is
  shallow (suc n) (array ds) is = omega (arith, items_shallow n ds is)
  shallow zero (object ms) is = absurd is
  shallow (suc n) (object ms) is = omega (arith, members_shallow n ms is.0)

  items_shallow : (n : ℕ) (ds : Items) → ArePlainItems n ds → tree.items_depth (items_outline ds) ≤ n
  items_shallow n no_items is = omega arith
  items_shallow n (item d ds) is = omega (arith, shallow n d is.0, items_shallow n ds is.1)

  members_shallow : (n : ℕ) (ms : Members) → ArePlainMembers n ms → tree.members_depth (members_outline ms) ≤ n
  members_shallow n no_members is = omega arith
  members_shallow n (member k d ms) is = omega (arith, shallow n d is.1, members_shallow n ms is.2)

-- members, and others behind them
abbrev followed : Members → Members → Members
followed no_members more = more
followed (member k d ms) more = member k d (followed ms more)

followed_by_none : (ms : Members) → followed ms no_members ≡ ms
followed_by_none no_members = refl
followed_by_none (member k d ms) = ap (member k d) (followed_by_none ms)

one_by_one : (found : Members) (k : Text) (d : Data) (ms : Members) → followed found (member k d ms) ≡ followed (followed found (member k d no_members)) ms
one_by_one no_members k d ms = refl
one_by_one (member l e found) k d ms = ap (member l e) (one_by_one found k d ms)

before_next : (q : Text) (found : Members) (k : Text) (d : Data) (ms : Members) → IsBefore q (followed found (member k d ms)) → slice_cmp nat_cmp q k ≡ Less
before_next q no_members k d ms all = all.0
before_next q (member l e found) k d ms all = before_next q found k d ms all.1

-- a name that is behind all others is put last
put_last : (found : Members) (k : Text) (d : Data) (ms : Members) → AreOrdered (followed found (member k d ms)) → put k d found ≡ followed found (member k d no_members)
put_last no_members k d ms all = refl
put_last (member l e found) k d ms all =
    let behind : slice_cmp nat_cmp k l ≡ Greater = nat_list_cmp_total.antisymm k l ∙ ap ordering_reverse (before_next l found k d ms all.0) in
    rw behind (ap (member l e) (put_last found k d ms all.1))

mutual
  again : (n : ℕ) (d : Data) → IsPlain n d → of_json (outline d) ≡ Some d
  again n null is = refl
  again n (boolean b) is = refl
  again n (number (unsigned x)) is = rw (number_of-decimal x is) refl
  again n (number (negative z)) is = absurd is
  again n (number (float x)) is = absurd is
  again n (string s) is = refl
  again zero (array ds) is = absurd is
  again (suc n) (array ds) is = rw (items_again n ds is) refl
  again zero (object ms) is = absurd is
  again (suc n) (object ms) is = rw (members_again n no_members ms is.0 is.1) refl

  items_again : (n : ℕ) (ds : Items) → ArePlainItems n ds → of_items (items_outline ds) ≡ Some ds
  items_again n no_items is = refl
  items_again n (item d ds) is = rw (again n d is.0, items_again n ds is.1) refl

  members_again : (n : ℕ) (found ms : Members) → ArePlainMembers n ms → AreOrdered (followed found ms) → of_members (members_outline ms) found ≡ Some (followed found ms)
  members_again n found no_members is all = rw (followed_by_none found) refl
  members_again n found (member k d ms) is all =
      let same = one_by_one found k d ms in
      rw (again n d is.1, put_last found k d ms all)
      (members_again n (followed found (member k d no_members)) ms is.2 (subst AreOrdered same all) ∙ ap (λ (all : Members). Some all) (sym same))

-- what is read of a value and what stands behind it
abbrev whole : Option (json.Json × List Token) → Option Data
whole o = option_and_then of_json (option_and_then (λ p. json.if_last p.0 p.1) o)

read_again : (n : ℕ) (d : Data) → IsPlain n d → n ≤ max_depth → read (compact_text d) ≡ Some d
read_again n d is few =
    let ts = tree.json_tokens (outline d) in
    let fits : tree.depth (outline d) ≤ max_depth = omega (arith, shallow n d is, few) in
    let spelt : tokens (compact_text d) ≡ ts ++ [] = ap tokens (sym (print-outline d)) ∙ tokens-print ts (ArePrintable-json_tokens (outline d) (numbers n d is)) ∙ sym (append-nil ts) in
    ap whole (ap (json.value max_depth) spelt ∙ value-json_tokens (outline d) max_depth [] fits) ∙ again n d is

pub value_again : (n : ℕ) (d : Data) → IsPlain n d → n ≤ max_depth → line_value (compact_text d) ≡ Some d
value_again n d is few = rw (data_utf8 n d is) (read_again n d is few)
