-- Where records end, and the lines of places.
use Rattle.std.proofs.Common.{◌≡◌, ◌∙◌, ℕ, ◌+◌, ◌-◌, ◌<◌, ◌≤◌, List, [], length, get_or, take, drop, refl, ap, add-one, arith, drop-cons, true, false}
use Rattle.std.specs.List.{count_by}
use Rattle.std.specs.Prelude.{cond}
use Rattle.std.proofs.Math.Seq.{take-add}
use Rattle.std.proofs.lemmas.List.{drop_all}
use Rattle.std.proofs.lemmas.List.Sums.{sum_by-append}
use Rattle.csv.specs.Machine.{is_end, step}
use Rattle.csv.specs.declared.parser.Config.{Config}
use Rattle.csv.specs.declared.parser.State.{State}
use Rattle.casa_rows.specs.Lines.{is_line_feed, line_behind}
use Rattle.casa_rows.specs.Walk.{behind_record}

-- a byte that ends the record
pub ends_here : (how : Config) (from : State) (text : List ℕ) (i : ℕ) → i < length text → is_end (step how from (get_or text i 0)).1 ≡ true
    → drop (i + 1) text ≡ behind_record how from (drop i text)
unfolding behind_record
ends_here how from text i within ends = rw (add-one, drop-cons text i 0, ends) refl

-- a byte that does not
pub goes_on : (how : Config) (from to : State) (text : List ℕ) (i : ℕ) → i < length text → is_end (step how from (get_or text i 0)).1 ≡ false
    → (step how from (get_or text i 0)).0 ≡ to → behind_record how from (drop i text) ≡ behind_record how to (drop (i + 1) text)
unfolding behind_record
goes_on how from to text i within on reached = rw (add-one, drop-cons text i 0, on, reached) refl

-- the end of the text
pub at_end : (how : Config) (from : State) (text : List ℕ) (i : ℕ) → length text ≤ i → drop (length text) text ≡ behind_record how from (drop i text)
unfolding behind_record
at_end how from text i past =
    let all : drop (length text) text ≡ [] = drop_all (length text) text (omega arith) in
    let here : drop i text ≡ [] = drop_all i text past in
    rw (all, here) refl

-- the line of a place further on
pub line_ahead : (text : List ℕ) (at bytes : ℕ)
    → line_behind (take at text) + count_by is_line_feed (take (at + bytes - at) (drop at text)) ≡ line_behind (take (at + bytes) text)
line_ahead text at bytes =
    let size : at + bytes - at ≡ bytes = omega arith in
    let whole = ap (count_by is_line_feed) (take-add at bytes text) ∙ sum_by-append (λ byte. cond (is_line_feed byte) 1 0) (take at text) (take bytes (drop at text)) in
    rw size (omega (arith, whole))
