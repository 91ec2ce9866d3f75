-- what a row or a list more adds to counts and delays
use Rattle.std.proofs.Common.{◌≡◌, ℕ, ◌+◌, ◌<◌, ◌≤◌, List, [], ◌∷◌, ◌++◌, Bool, length, map, take, drop, get_or, max, add-one, ap, sym, ◌∙◌, arith, append-nil, length-append}
use Rattle.std.proofs.Math.Seq.{take-suc}
use Rattle.std.proofs.lemmas.List.{map-append, take-append-drop}
use Rattle.std.proofs.lemmas.Grind.{flat_map-append}
use Rattle.std.proofs.lemmas.List.Elements.{filter-append}
use Rattle.std.proofs.lemmas.List.Sums.{fold-append, sum_by-append}
use Rattle.std.specs.List.{filter, fold, sum_by}
use Rattle.casa_flight.specs.declared.reply.ListReply.{ListReply}
use Rattle.casa_flight.specs.declared.reply.ListRow.{ListRow}
use Rattle.casa_inquiry.specs.Summary.{count, delay, governed_delays, greatest, is_governed, rows_of, total_delay}

-- the first elements with the next one
pub take-next : {X : Type 0} (xs : List X) (i : ℕ) (d : X) → i < length xs → take (i + 1) xs ≡ take i xs ++ get_or xs i d ∷ []
take-next xs i d within = rw add-one (take-suc xs i d within)

-- the rows of one list more
pub rows-next : (lists : List ListReply) (i : ℕ) (d : ListReply) → i < length lists
    → rows_of (take (i + 1) lists) ≡ rows_of (take i lists) ++ (get_or lists i d).rows
rows-next lists i d within =
    let rows : ListReply → List ListRow = λ list. list.rows in
    ap rows_of (take-next lists i d within) ∙ flat_map-append rows (take i lists) (get_or lists i d ∷ [])
    ∙ ap (λ more. rows_of (take i lists) ++ more) (append-nil (rows (get_or lists i d)))

pub count-append : (is_so : ListRow → Bool) (rows more : List ListRow) → count is_so (rows ++ more) ≡ count is_so rows + count is_so more
count-append is_so rows more = ap length (filter-append is_so rows more) ∙ length-append (filter is_so rows) (filter is_so more)

-- the greatest of two lists of numbers
greatest-from : (n : ℕ) (ns : List ℕ) → fold max n ns ≡ max n (greatest ns)
greatest-from n [] = omega arith
greatest-from n (m ∷ ns) =
    let zero : max 0 m ≡ m = omega arith in
    let first : greatest (m ∷ ns) ≡ max m (greatest ns) = ap (λ k. fold max k ns) zero ∙ greatest-from m ns in
    omega (arith, greatest-from (max n m) ns, first)

pub greatest-append : (ns ms : List ℕ) → greatest (ns ++ ms) ≡ max (greatest ns) (greatest ms)
greatest-append ns ms = fold-append max 0 ns ms ∙ greatest-from (greatest ns) ms

pub longest-append : (rows more : List ListRow)
    → greatest (governed_delays (rows ++ more)) ≡ max (greatest (governed_delays rows)) (greatest (governed_delays more))
longest-append rows more =
    ap (λ rs. greatest (map delay rs)) (filter-append is_governed rows more)
    ∙ ap greatest (map-append delay (filter is_governed rows) (filter is_governed more))
    ∙ greatest-append (governed_delays rows) (governed_delays more)

-- the delays of some lists and of more of them
pub delays-append : (rows more : List ListRow) → sum_by delay (filter is_governed (rows ++ more)) ≡ sum_by delay (filter is_governed rows) + sum_by delay (filter is_governed more)
delays-append rows more =
    ap (sum_by delay) (filter-append is_governed rows more) ∙ sum_by-append delay (filter is_governed rows) (filter is_governed more)

-- the delays of one list more
pub delays-next : (lists : List ListReply) (i : ℕ) (list : ListReply) → i < length lists → list ≡ get_or lists i list
    → total_delay (take (i + 1) lists) ≡ total_delay (take i lists) + sum_by delay (filter is_governed list.rows)
delays-next lists i list within is =
    ap (λ (rs : List ListRow). sum_by delay (filter is_governed rs)) (rows-next lists i list within)
    ∙ delays-append (rows_of (take i lists)) (get_or lists i list).rows
    ∙ ap (λ (l : ListReply). total_delay (take i lists) + sum_by delay (filter is_governed l.rows)) (sym is)

-- the delays of the first lists are at most those of all
pub delays-first : (lists : List ListReply) (i : ℕ) → total_delay (take i lists) ≤ total_delay lists
delays-first lists i =
    let rows : ListReply → List ListRow = λ list. list.rows in
    let whole : rows_of lists ≡ rows_of (take i lists) ++ rows_of (drop i lists) =
    ap rows_of (sym (take-append-drop i lists)) ∙ flat_map-append rows (take i lists) (drop i lists) in
    let sum : total_delay lists ≡ total_delay (take i lists) + total_delay (drop i lists) =
    ap (λ (rs : List ListRow). sum_by delay (filter is_governed rs)) whole ∙ delays-append (rows_of (take i lists)) (rows_of (drop i lists)) in
    omega (arith, sum)
