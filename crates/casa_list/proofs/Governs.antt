-- what a row of seats says of competitors and issued flights, once a seat is put into it or taken out
use Rattle.std.proofs.Common.{◌≡◌, ℕ, ◌+◌, ◌<◌, ◌≤◌, List, length, drop, set, refl, sym, ◌∙◌, ap, subst, arith}
use Rattle.std.specs.List.{All, insert, remove}
use Rattle.std.proofs.lemmas.List.{length-take-le, length-drop, length-map, length-set, drop-set-add}
use Rattle.std.proofs.lemmas.List.Edits.{length-insert, length-remove}
use Rattle.std.proofs.lemmas.List.Elements.{All-set}
use Rattle.casa_flight.specs.declared.comp.Assigned.{Assigned}
use Rattle.casa_list.specs.Governing.{Governing, AreGoverning, governing}
use Rattle.casa_slots.specs.Seat.{HoldsTime, issued_in}
use Rattle.casa_list.proofs.Seated.{drop-put_front, drop-out_front, drop-put_behind, drop-out_behind, All-insert, All-remove}

-- how many of both there are
pub many_first : (n : ℕ) (xs : List Assigned) (room : ℕ) (g : Governing) → AreGoverning n xs → governing n xs room ≡ g → length g.competitors ≡ n
many_first n xs room g h is = sym (ap (λ (f : Governing). length f.competitors) is) ∙ length-take-le n xs h.within

pub many_behind : (n : ℕ) (xs : List Assigned) (room : ℕ) (g : Governing) → AreGoverning n xs → governing n xs room ≡ g → n + length g.issued ≡ length xs
many_behind n xs room g h is =
    let size : length g.issued ≡ length (drop n xs) = sym (ap (λ (f : Governing). length f.issued) is) ∙ length-map (drop n xs) issued_in in
    let within : n ≤ length xs = h.within in
    omega (arith, size, length-drop n xs, within)

pub governs_put : (n i : ℕ) (xs ys : List Assigned) (x : Assigned) → i ≤ n → ys ≡ insert xs i x → AreGoverning n xs → AreGoverning (n + 1) ys
governs_put n i xs ys x le put h =
    let within : n ≤ length xs = h.within in
    let size : length (insert xs i x) ≡ length xs + 1 = length-insert xs i x (omega (arith, le, within)) in
    subst (AreGoverning (n + 1)) (sym put)
    (record {
      within = omega (arith, size, within);
      times = subst (All HoldsTime) (sym (drop-put_front (n + 1) n i xs x refl le within)) h.times;
    })

pub governs_out : (m n i : ℕ) (xs ys : List Assigned) → n ≡ m + 1 → i < n → ys ≡ remove xs i → AreGoverning n xs → AreGoverning m ys
governs_out m n i xs ys is lt out h =
    let within : n ≤ length xs = h.within in
    let size : length (remove xs i) + 1 ≡ length xs = length-remove xs i (omega (arith, lt, within)) in
    subst (AreGoverning m) (sym out)
    (record {
      within = omega (arith, size, within, is);
      times = subst (All HoldsTime) (sym (drop-out_front m n i xs is lt within)) h.times;
    })

pub governs_put_behind : (n i : ℕ) (xs ys : List Assigned) (x : Assigned) → n + i ≤ length xs → HoldsTime x → ys ≡ insert xs (n + i) x → AreGoverning n xs → AreGoverning n ys
governs_put_behind n i xs ys x le time put h =
    let size : length (insert xs (n + i) x) ≡ length xs + 1 = length-insert xs (n + i) x le in
    subst (AreGoverning n) (sym put)
    (record {
      within = omega (arith, size, le);
      times = subst (All HoldsTime) (sym (drop-put_behind n i xs x h.within)) (All-insert HoldsTime (drop n xs) i x time h.times);
    })

pub governs_out_behind : (n i : ℕ) (xs ys : List Assigned) → n + i < length xs → ys ≡ remove xs (n + i) → AreGoverning n xs → AreGoverning n ys
governs_out_behind n i xs ys lt out h =
    let size : length (remove xs (n + i)) + 1 ≡ length xs = length-remove xs (n + i) lt in
    subst (AreGoverning n) (sym out)
    (record {
      within = omega (arith, size, lt);
      times = subst (All HoldsTime) (sym (drop-out_behind n i xs h.within)) (All-remove HoldsTime (drop n xs) i h.times);
    })

pub governs_set_behind : (n i : ℕ) (xs ys : List Assigned) (x : Assigned) → HoldsTime x → ys ≡ set xs (n + i) x → AreGoverning n xs → AreGoverning n ys
governs_set_behind n i xs ys x time is h =
    let within : n ≤ length xs = h.within in
    let size : length (set xs (n + i) x) ≡ length xs = length-set xs (n + i) x in
    subst (AreGoverning n) (sym is)
    (record {
      within = omega (arith, size, within);
      times = subst (All HoldsTime) (sym (drop-set-add n xs i x)) (All-set HoldsTime (drop n xs) i x time h.times);
    })
