-- Records of csv, and the rows that are made of them.
use Rattle.std.proofs.Common.{◌≡◌, ◌∙◌, ℕ, List, [], ◌∷◌, ◌++◌, drop, append_assoc, refl, sym, ap, inl, inr, true, false}
use Rattle.std.specs.Prelude.{Bool, ◌==◌, ◌||◌, ◌⊎◌, if◌then◌else◌, Option, None, Some}
use Rattle.csv.specs.Machine.{Read, ends_at_end, ends_with, field_after, fields_after, in_field, is_end, next_record, start_field, start_record, step}
use Rattle.csv.specs.Reading.{Reached, ReadRecord, source_of}
use Rattle.csv.specs.declared.parser.Action.{Action}
use Rattle.csv.specs.declared.parser.Action.TheVariants as act
use Rattle.csv.specs.declared.parser.Config.{Config}
use Rattle.csv.specs.declared.parser.State.{State}
use Rattle.csv.specs.declared.parser.State.TheVariants as st
use Rattle.csv.specs.declared.parser.Terminator.TheVariants as term
use Rattle.csv.specs.declared.reader.Reader.{Reader}
use Rattle.csv.proofs.ReadFacts.{rows-more}
use Rattle.casa_rows.specs.Lines.{BeginsOnLine, from_first_line}
use Rattle.casa_rows.specs.Rows.{AreRowsFrom, config, fields}
use Rattle.casa_rows.specs.Walk.{behind_record}
use Rattle.casa_rows.specs.declared.row.Row.{Row}

-- the states in which csv is behind a record
abbrev pub IsBetween : State → Type 0
IsBetween state = (state ≡ st.StartRecord) ⊎ (state ≡ st.AfterCr)

-- a step that ends a record leaves such a state
abbrev EndsWell : State × Action → Type 0
EndsWell reached = is_end reached.1 ≡ true → IsBetween reached.0

either : (test : Bool) (one other : State × Action) → EndsWell one → EndsWell other → EndsWell (if test then one else other)
either true one other well_one well_other = well_one
either false one other well_one well_other = well_other

skips : (state : State) → EndsWell (state, act.Skip)
skips state ends = cc ends

copies : (state : State) → EndsWell (state, act.Copy)
copies state ends = cc ends

line_ends : (carriage_return : Bool) → EndsWell (if carriage_return then st.AfterCr else st.StartRecord, act.EndRecord)
line_ends true ends = inr refl
line_ends false ends = inl refl

field_ends : (separator byte : ℕ) → EndsWell (in_field (config separator) byte)
field_ends separator byte =
    either (byte == separator) (st.StartField, act.EndField) _ (λ ends. cc ends) (either (ends_with term.CRLF byte) _ (st.InField, act.Copy) (line_ends (byte == 13)) (copies st.InField))

start_ends : (separator byte : ℕ) → EndsWell (start_field (config separator) byte)
start_ends separator byte = either (byte == 34) (st.InQuoted, act.Skip) _ (skips st.InQuoted) (field_ends separator byte)

record_ends : (separator byte : ℕ) → EndsWell (start_record (config separator) byte)
record_ends separator byte = either (ends_with term.CRLF byte) (st.StartRecord, act.Skip) _ (skips st.StartRecord) (start_ends separator byte)

step_ends : (separator : ℕ) (from : State) (byte : ℕ) → EndsWell (step (config separator) from byte)
step_ends separator st.StartRecord byte = record_ends separator byte
step_ends separator st.StartField byte = start_ends separator byte
step_ends separator st.InField byte = field_ends separator byte
step_ends separator st.InQuoted byte = either (byte == 34) (st.AfterQuote, act.Skip) (st.InQuoted, act.Copy) (skips st.AfterQuote) (copies st.InQuoted)
step_ends separator st.InEscape byte = copies st.InQuoted
step_ends separator st.AfterQuote byte = either (byte == 34) (st.InQuoted, act.Copy) _ (copies st.InQuoted) (field_ends separator byte)
step_ends separator st.InComment byte = either (byte == 10) (st.StartRecord, act.Skip) (st.InComment, act.Skip) (skips st.StartRecord) (skips st.InComment)
step_ends separator st.AfterCr byte = either (byte == 10) (st.StartRecord, act.Skip) _ (skips st.StartRecord) (record_ends separator byte)

-- what csv leaves behind a record
abbrev pub Leaves : ℕ → State → List ℕ → Read → Type 0
Leaves separator from text read = IsBetween read.1 × (read.2 ≡ behind_record (config separator) from text)

at_text_end : (ends : Bool) (all : List (List ℕ)) (read : Read) → (if ends then Some (all, st.StartRecord, []) else None) ≡ Some read → IsBetween read.1 × (read.2 ≡ [])
at_text_end true all read is =
    let same : (all, st.StartRecord, []) ≡ read = cc is in
    (inl (ap (λ (r : Read). r.1) (sym same)), ap (λ (r : Read). r.2) (sym same))
at_text_end false all read is = cc is

pub leaves : (separator : ℕ) (from : State) (all : List (List ℕ)) (field text : List ℕ) (read : Read) → next_record (config separator) from all field text ≡ Some read → Leaves separator from text read
unfolding next_record behind_record
leaves separator from all field [] read is = at_text_end (ends_at_end from) (all ++ (field ∷ [])) read is
leaves separator from all field (byte ∷ bytes) read is =
    by (is_end (step (config separator) from byte).1) refl is
    (leaves separator (step (config separator) from byte).0 (fields_after (step (config separator) from byte).1 all field) (field_after (step (config separator) from byte).1 byte field) bytes read)
  where
    by : (ends : Bool) → is_end (step (config separator) from byte).1 ≡ ends
        → (if ends then Some (fields_after (step (config separator) from byte).1 all field, (step (config separator) from byte).0, bytes)
        else next_record (config separator) (step (config separator) from byte).0 (fields_after (step (config separator) from byte).1 all field) (field_after (step (config separator) from byte).1 byte field) bytes)
        ≡ Some read
        → (next_record (config separator) (step (config separator) from byte).0 (fields_after (step (config separator) from byte).1 all field) (field_after (step (config separator) from byte).1 byte field) bytes ≡ Some read
        → Leaves separator (step (config separator) from byte).0 bytes read)
        → IsBetween read.1 × (read.2 ≡ (if ends then bytes else behind_record (config separator) (step (config separator) from byte).0 bytes))
    by true ends is more =
        let same : (fields_after (step (config separator) from byte).1 all field, (step (config separator) from byte).0, bytes) ≡ read = cc is in
        let between : IsBetween (step (config separator) from byte).0 = step_ends separator from byte ends in
        (rw (ap (λ (r : Read). r.1) (sym same)) between, ap (λ (r : Read). r.2) (sym same))
    by false ends is more = more is

same_pick : (feed return : Bool) (here there : State × Action) → (if feed then here else if return || feed then here else there) ≡ (if return || feed then here else there)
same_pick true true here there = refl
same_pick true false here there = refl
same_pick false return here there = refl

after_return : (separator : ℕ) (text : List ℕ) → behind_record (config separator) st.AfterCr text ≡ behind_record (config separator) st.StartRecord text
unfolding behind_record
after_return separator [] = refl
after_return separator (byte ∷ bytes) =
    let same : step (config separator) st.AfterCr byte ≡ step (config separator) st.StartRecord byte = same_pick (byte == 10) (byte == 13) (st.StartRecord, act.Skip) (start_field (config separator) byte) in
    ap (λ (reached : State × Action). if is_end reached.1 then bytes else behind_record (config separator) reached.0 bytes) same

-- it does not matter in which of them csv is
pub from_between : (separator : ℕ) (from : State) (text : List ℕ) → IsBetween from → behind_record (config separator) from text ≡ behind_record (config separator) st.StartRecord text
from_between separator from text (inl is) = rw is refl
from_between separator from text (inr is) = rw is (after_return separator text)

-- rows that are read are all rows, with those that are to come
abbrev pub AreSoFar : ℕ → List ℕ → State → List ℕ → List Row → Type 0
AreSoFar separator text state left rows =
    (later : List Row) → AreRowsFrom (config separator) text state left later → AreRowsFrom (config separator) text st.StartRecord text (rows ++ later)

row_more : (separator : ℕ) (text : List ℕ) (state : State) (left : List ℕ) (rows : List Row) (row : Row) (read : Read) → next_record (config separator) state [] [] left ≡ Some read → fields row ≡ read.0
    → BeginsOnLine text (from_first_line left) row.line → AreSoFar separator text state left rows → AreSoFar separator text read.1 read.2 (rows ++ row ∷ [])
unfolding AreRowsFrom
row_more separator text state left rows row read is same line so_far later rest = rw (append_assoc rows (row ∷ []) later) (so_far (row ∷ later) (read, is, same, line, rest))

-- where csv reads no record, no row comes
pub no_row : (how : Config) (text : List ℕ) (state : State) (left : List ℕ) → next_record how state [] [] left ≡ None → AreRowsFrom how text state left []
unfolding AreRowsFrom
no_row how text state left none = none

-- a reader after a row
pub record After {R : Type 0} (rem : R → Option (List ℕ)) (b : Reader R) (separator : ℕ) (text : List ℕ) (at : ℕ) (rows : List Row) : Type 0 where
  pub source : source_of rem b ≡ Some (drop at text)
  pub between : IsBetween b.state
  pub so_far : AreSoFar separator text b.state (drop at text) rows

pub after_row : {R : Type 0} (rem : R → Option (List ℕ)) (a b : Reader R) (separator : ℕ) (text : List ℕ) (at next : ℕ) (rows : List Row) (row : Row) (found : List (List ℕ))
    → a.config ≡ config separator → After rem a separator text at rows → ReadRecord rem a b true found → fields row ≡ found
    → BeginsOnLine text (from_first_line (drop at text)) row.line → drop next text ≡ behind_record (config separator) st.StartRecord (drop at text)
    → After rem b separator text next (rows ++ row ∷ [])
unfolding Reached
after_row rem a b separator text at next rows row found how here read same line behind =
    let left = drop at text in
    let more = rows-more rem a b found (config separator) a.state left left [] how here.source (refl, refl) read in
    let one = more.2 in
    let p : Read = one.0 in
    let leave = leaves separator a.state [] [] left p one.1 in
    let rest : p.2 ≡ drop next text = leave.1 ∙ from_between separator a.state left here.between ∙ sym behind in
    let so_far = row_more separator text a.state left rows row p one.1 (same ∙ one.2) line here.so_far in
    record {
      source = more.1 ∙ ap Some (sym one.3.1 ∙ rest);
      between = rw (sym one.3.0) leave.0;
      so_far = rw (sym one.3.0, sym rest) so_far;
    }
