-- each byte of plain data can be seen: it is one from the space to the tilde
use Rattle.std.proofs.Common.{◌≡◌, ℕ, zero, suc, ◌+◌, ◌%◌, ◌^◌, ◌<◌, ◌≤◌, List, [], ◌∷◌, ◌++◌, All, Bool, true, false, ◌&&◌, refl, ◌∙◌, arith}
use Rattle.std.specs.Prelude.{nat_le, not, ◌==◌, slice_index}
use Rattle.std.specs.Str.{is_utf8}
use Rattle.std.specs.List.{AllByRecursion}
use Rattle.std.specs.Fmt.{decimal}
use Rattle.std.proofs.lemmas.Str.{IsUtf8-from_ascii, is_utf8-from_IsUtf8}
use Rattle.std.proofs.lemmas.Bool.{and_parts}
use Rattle.std.proofs.lemmas.Bool.Decides.{nat_tests}
use Rattle.std.proofs.lemmas.Fmt.{decimal_by_steps}
use Rattle.std.proofs.lemmas.List.Elements.{All-from_recursion}
use Rattle.std.proofs.lemmas.List.Folds.{list_all-append}
use Rattle.json.specs.Print.{quoted, escape, escape_byte, escape_letter}
use Rattle.serde_json.specs.Data.{Data, null, boolean, number, string, array, object, unsigned, negative, float, Items, no_items, item, Members, no_members, member}
use Rattle.serde_json.specs.Written.{compact_text, items_text, members_text, comma_if}
use Rattle.casa_lines.proofs.Plain.{is_seen, are_seen, is_plain, are_plain, IsPlain, ArePlainItems, ArePlainMembers}

both : (xs ys : List ℕ) → are_seen xs ≡ true → are_seen ys ≡ true → are_seen (xs ++ ys) ≡ true
both xs ys one other = list_all-append is_seen xs ys ∙ rw (one, other) refl

seen_decimal : (n : ℕ) → n < 2 ^ 64 → are_seen (decimal n) ≡ true
seen_decimal = decimal_by_steps (λ m ds. are_seen ds ≡ true) (λ m l. grind (arith, nat_tests)) (λ m ds l h. both ds ((48 + m % 10) ∷ []) h (grind (arith, nat_tests)))

plain_letter : (b : ℕ) → is_plain b ≡ true → escape_letter b ≡ 0
plain_letter b h = grind (arith, nat_tests)

plain_byte : (b : ℕ) → is_plain b ≡ true → escape_byte b ≡ b ∷ []
unfolding escape_byte
plain_byte b h = rw (plain_letter b h) (grind (arith, nat_tests))

plain_text : (s : List ℕ) → are_plain s ≡ true → escape s ≡ s
plain_text [] h = refl
plain_text (b ∷ bs) h =
    let parts = and_parts (is_plain b) (are_plain bs) h in
    rw (plain_byte b parts.0, plain_text bs parts.1) refl

seen_of_plain : (s : List ℕ) → are_plain s ≡ true → are_seen s ≡ true
seen_of_plain [] h = refl
seen_of_plain (b ∷ bs) h =
    let parts = and_parts (is_plain b) (are_plain bs) h in
    let first = and_parts (is_seen b) (not (b == 34) && not (b == 92)) parts.0 in
    rw (first.0, seen_of_plain bs parts.1) refl

seen_quoted : (s : List ℕ) → are_plain s ≡ true → are_seen (quoted s) ≡ true
seen_quoted s h = rw (plain_text s h) (both s (34 ∷ []) (seen_of_plain s h) refl)

seen_comma : (later : Bool) → are_seen (comma_if later) ≡ true
seen_comma true = refl
seen_comma false = refl

seen_truth : (b : Bool) → are_seen (compact_text (boolean b)) ≡ true
seen_truth true = refl
seen_truth false = refl

mutual
  seen_data : (n : ℕ) (d : Data) → IsPlain n d → are_seen (compact_text d) ≡ true
  seen_data n null is = refl
  seen_data n (boolean b) is = seen_truth b
  seen_data n (number (unsigned x)) is = seen_decimal x is
  seen_data n (number (negative z)) is = absurd is
  seen_data n (number (float x)) is = absurd is
  seen_data n (string s) is = seen_quoted s is
  seen_data zero (array ds) is = absurd is
  seen_data (suc n) (array ds) is = seen_items n false ds is
  seen_data zero (object ms) is = absurd is
  seen_data (suc n) (object ms) is = seen_members n false ms is.0

  seen_items : (n : ℕ) (later : Bool) (ds : Items) → ArePlainItems n ds → are_seen (items_text later ds) ≡ true
  seen_items n later no_items is = refl
  seen_items n later (item d ds) is = both (comma_if later) (compact_text d ++ items_text true ds) (seen_comma later) (both (compact_text d) (items_text true ds) (seen_data n d is.0) (seen_items n true ds is.1))

  seen_members : (n : ℕ) (later : Bool) (ms : Members) → ArePlainMembers n ms → are_seen (members_text later ms) ≡ true
  seen_members n later no_members is = refl
  seen_members n later (member k d ms) is =
      both (comma_if later) (quoted k ++ 58 ∷ (compact_text d ++ members_text true ms)) (seen_comma later)
      (both (quoted k) (58 ∷ (compact_text d ++ members_text true ms)) (seen_quoted k is.0) (both (compact_text d) (members_text true ms) (seen_data n d is.1) (seen_members n true ms is.2)))

seen_byte : (b : ℕ) → is_seen b ≡ true → (32 ≤ b) × (b ≤ 126)
seen_byte b h = let parts = and_parts (nat_le 32 b) (nat_le b 126) h in (grind (arith, nat_tests), grind (arith, nat_tests))

seen_each : (bs : List ℕ) → are_seen bs ≡ true → AllByRecursion (λ (b : ℕ). (32 ≤ b) × (b ≤ 126)) bs
seen_each [] h = tt
seen_each (b ∷ bs) h = let parts = and_parts (is_seen b) (are_seen bs) h in (seen_byte b parts.0, seen_each bs parts.1)

seen_ascii : (bs : List ℕ) → are_seen bs ≡ true → (i : ℕ) → slice_index bs i < 128
seen_ascii [] h i = omega arith
seen_ascii (b ∷ bs) h zero = omega (arith, (seen_byte b (and_parts (is_seen b) (are_seen bs) h).0).1)
seen_ascii (b ∷ bs) h (suc i) = seen_ascii bs (and_parts (is_seen b) (are_seen bs) h).1 i

pub data_seen : (n : ℕ) (d : Data) → IsPlain n d → All (λ (b : ℕ). (32 ≤ b) × (b ≤ 126)) (compact_text d)
data_seen n d is = All-from_recursion (λ (b : ℕ). (32 ≤ b) × (b ≤ 126)) (compact_text d) (seen_each (compact_text d) (seen_data n d is))

pub data_utf8 : (n : ℕ) (d : Data) → IsPlain n d → is_utf8 (compact_text d) ≡ true
data_utf8 n d is = is_utf8-from_IsUtf8 (compact_text d) (IsUtf8-from_ascii (compact_text d) (seen_ascii (compact_text d) (seen_data n d is)))
