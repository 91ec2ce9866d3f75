-- an exchange of issued times moves nobody
use Rattle.std.proofs.Common.{◌≡◌, ℕ, List, [], ◌∷◌, ◌++◌, length, map, Bool, true, false, not, ◌&&◌, nat_lt, cond, ◌||◌, refl, sym, ap, subst, ◌∙◌, Option, None, Some}
use Rattle.std.specs.Option.{option_map, option_map_or, option_and_then}
use Rattle.std.specs.Ordering.{is_eq}
use Rattle.std.specs.BTreeMap.{is_at}
use Rattle.std.specs.List.{list_any, cons_option, slice_get, find, range_with_len}
use Rattle.casa_grid.specs.declared.slot.Window.{Window}
use Rattle.casa_grid.specs.declared.slot.Place.{Place}
use Rattle.casa_grid.specs.Slots.{slots, is_within, wanted}
use Rattle.casa_flight.specs.declared.comp.Comp.{Comp}
use Rattle.casa_flight.specs.declared.comp.Assigned.{Assigned}
use Rattle.casa_flight.specs.declared.row.Stance.{Stance}
use Rattle.casa_flight.specs.declared.row.Stance.TheVariants.{Issued}
use Rattle.casa_flight.specs.declared.call.Call.TheVariants.{Swap}
use Rattle.casa_filing.specs.declared.regulation.Measure.{Measure}
use Rattle.casa_flight.specs.declared.state.State.{State}
use Rattle.casa_filing.specs.Text.{Text, at_name, put, without}
use Rattle.casa_flight.specs.State.{is_governed_by}
use Rattle.casa_flight.specs.Assignment.{is_blocked, is_from, is_taken, place_after, place_from, assigned_after, assignment}
use Rattle.casa_flight.specs.Listing.{Listing, listing, list_of, stance, stance_in, sorted_by, is_before, competitor, competitors, issued_cto, occupancy, places, stance_of}
use Rattle.casa_flight.specs.Steps.{Exchange, with_exchange, after, next}
use Rattle.casa_flight.specs.Good.{AreInOrder, IsGood}
use Rattle.casa_filing.proofs.Entries.{text_cmp, same_name, at-put_same, at-put_other, at-without_other, sorted-put, sorted-remove, other_way}
use Rattle.casa_laws.proofs.Kept.{kept_by, sorted-kept, sorted-kept_by, at-kept_by, at-without_same, same_entries, values_kept}
use Rattle.casa_laws.proofs.MovesNobody.{times}
use Rattle.casa_laws.proofs.ChangeMessages.{governed_name}
use Rattle.casa_laws.proofs.Outcomes.{CanExchange, swap_cases}
use Rattle.casa_laws.proofs.Swap.{SharedBy, shared_by, same_measure, governed_stands, exchanged_list, other_list}

any_first : (p : ℕ → Bool) (o : Option ℕ) (ts : List ℕ) → list_any p (cons_option o ts) ≡ (option_map_or p o false || list_any p ts)
any_first p None ts = refl
any_first p (Some t) ts = refl

turn : (a b c : Bool) → (a || (b || c)) ≡ (b || (a || c))
turn true true c = refl
turn true false c = refl
turn false true c = refl
turn false false c = refl

-- a test of the times, by one of the flights and the others
any_with : (p : ℕ → Bool) (k : Text) (s : Stance) (es : List (Text × Stance)) → at_name es k ≡ Some s → list_any p (times es) ≡ (option_map_or p (issued_cto s) false || list_any p (times (without es k)))
any_with p k s [] h = cc
any_with p k s (e ∷ es) h =
    elim (is_eq (text_cmp k e.0)) as (λ b. cond b (Some e.1) (at_name es k) ≡ Some s
    → list_any p (cons_option (issued_cto e.1) (times es)) ≡ (option_map_or p (issued_cto s) false || list_any p (times (cond b es (e ∷ without es k))))) [
      | true ↦ λ f. let same : e.1 ≡ s = cc in any_first p (issued_cto e.1) (times es) ∙ ap (λ (z : Stance). option_map_or p (issued_cto z) false || list_any p (times es)) same
      | false ↦ λ f.
          any_first p (issued_cto e.1) (times es)
          ∙ ap (λ b. option_map_or p (issued_cto e.1) false || b) (any_with p k s es f)
          ∙ turn (option_map_or p (issued_cto e.1) false) (option_map_or p (issued_cto s) false) (list_any p (times (without es k)))
          ∙ ap (λ b. option_map_or p (issued_cto s) false || b) (sym (any_first p (issued_cto e.1) (times (without es k))))
    ] h

-- the flights without one, whether that one or another stands in another way
without_put : (k : Text) (s : Stance) (es : List (Text × Stance)) → AreInOrder es → without (put es k s) k ≡ without es k
without_put k s es sorted =
    same_entries (without (put es k s) k) (without es k) (sorted-remove (is_at (text_cmp k)) (put es k s) (sorted-put k s es sorted)) (sorted-remove (is_at (text_cmp k)) es sorted)
    (λ q. by q (is_eq (text_cmp q k)) refl)
  where
    by : (q : Text) (b : Bool) → is_eq (text_cmp q k) ≡ b → at_name (without (put es k s) k) q ≡ at_name (without es k) q
    by q true h =
        subst (λ t. at_name (without (put es k s) k) t ≡ at_name (without es k) t) (sym (same_name q k h))
        (at-without_same k (put es k s) (sorted-put k s es sorted) ∙ sym (at-without_same k es sorted))
    by q false h = at-without_other q k (put es k s) h ∙ at-put_other q k s es h ∙ sym (at-without_other q k es h)

put_without_other : (a b : Text) (s : Stance) (es : List (Text × Stance)) → AreInOrder es → is_eq (text_cmp b a) ≡ false → without (put es a s) b ≡ put (without es b) a s
put_without_other a b s es sorted apart =
    same_entries (without (put es a s) b) (put (without es b) a s) (sorted-remove (is_at (text_cmp b)) (put es a s) (sorted-put a s es sorted)) (sorted-put a s (without es b) (sorted-remove (is_at (text_cmp b)) es sorted))
    (λ q. by q (is_eq (text_cmp q b)) refl (is_eq (text_cmp q a)) refl)
  where
    by : (q : Text) (x : Bool) → is_eq (text_cmp q b) ≡ x → (y : Bool) → is_eq (text_cmp q a) ≡ y → at_name (without (put es a s) b) q ≡ at_name (put (without es b) a s) q
    by q true h y g =
        subst (λ t. at_name (without (put es a s) b) t ≡ at_name (put (without es b) a s) t) (sym (same_name q b h))
        (at-without_same b (put es a s) (sorted-put a s es sorted) ∙ sym (at-put_other b a s (without es b) apart ∙ at-without_same b es sorted))
    by q false h true g =
        subst (λ t. at_name (without (put es a s) b) t ≡ at_name (put (without es b) a s) t) (sym (same_name q a g))
        (at-without_other a b (put es a s) (other_way b a apart) ∙ at-put_same a s es ∙ sym (at-put_same a s (without es b)))
    by q false h false g =
        at-without_other q b (put es a s) h ∙ at-put_other q a s es g ∙ sym (at-put_other q a s (without es b) g ∙ at-without_other q b es h)

any_put : (p : ℕ → Bool) (k : Text) (e t : ℕ) (es : List (Text × Stance)) → AreInOrder es → list_any p (times (put es k (Issued e t))) ≡ (p t || list_any p (times (without es k)))
any_put p k e t es sorted =
    any_with p k (Issued e t) (put es k (Issued e t)) (at-put_same k (Issued e t) es) ∙ ap (λ fs. p t || list_any p (times fs)) (without_put k (Issued e t) es sorted)

-- two issued flights with each the other's time
pub any_exchanged : (p : ℕ → Bool) (a b : Text) (e f c d : ℕ) (es : List (Text × Stance)) → AreInOrder es → at_name es a ≡ Some (Issued e c) → at_name es b ≡ Some (Issued f d)
    → list_any p (times (put (put es a (Issued e d)) b (Issued f c))) ≡ list_any p (times es)
any_exchanged p a b e f c d es sorted here there = by (is_eq (text_cmp b a)) refl
  where
    one : List (Text × Stance)
    one = put es a (Issued e d)

    by : (t : Bool) → is_eq (text_cmp b a) ≡ t → list_any p (times (put one b (Issued f c))) ≡ list_any p (times es)
    by true t =
        let same : b ≡ a = same_name b a t in
        any_put p b f c one (sorted-put a (Issued e d) es sorted)
        ∙ ap (λ q. p c || list_any p (times (without one q))) same
        ∙ ap (λ fs. p c || list_any p (times fs)) (without_put a (Issued e d) es sorted)
        ∙ sym (any_with p a (Issued e c) es here)
    by false t =
        let rest : List (Text × Stance) = without es b in
        -- without the second flight the first one stands at the other's time
        let after_first : list_any p (times (without one b)) ≡ (p d || list_any p (times (without (without one b) a))) =
        any_with p a (Issued e d) (without one b) (at-without_other a b one (other_way b a t) ∙ at-put_same a (Issued e d) es) in
        let before_first : list_any p (times rest) ≡ (p c || list_any p (times (without rest a))) =
        any_with p a (Issued e c) rest (at-without_other a b es (other_way b a t) ∙ here) in
        let same_rest : without (without one b) a ≡ without rest a =
        ap (λ fs. without fs a) (put_without_other a b (Issued e d) es sorted t) ∙ without_put a (Issued e d) rest (sorted-remove (is_at (text_cmp b)) es sorted) in
        any_put p b f c one (sorted-put a (Issued e d) es sorted)
        ∙ ap (λ x. p c || x) (after_first ∙ ap (λ fs. p d || list_any p (times fs)) same_rest)
        ∙ turn (p c) (p d) (list_any p (times (without rest a)))
        ∙ ap (λ x. p d || x) (sym before_first)
        ∙ sym (any_with p b (Issued f d) es there)

-- places follow from the slots and from which of them are blocked
place_same : (ws : List Window) (ts us : List ℕ) → ((k : ℕ) → is_blocked (record { slots = ws; issued = ts }) k ≡ is_blocked (record { slots = ws; issued = us }) k) → (earlier : List Assigned) (eto : ℕ)
    → place_after (record { slots = ws; issued = ts }) earlier eto ≡ place_after (record { slots = ws; issued = us }) earlier eto
place_same ws ts us same earlier eto =
    let free : ℕ → Bool → Bool = λ k b. (nat_lt k (length ws) && (is_from (wanted ws eto) k && not b)) && not (is_taken earlier k) in
    λ i. place_from (find (λ k. free k (same k i)) (range_with_len 0 (length ws)))

assigned_same : (ws : List Window) (ts us : List ℕ) → ((k : ℕ) → is_blocked (record { slots = ws; issued = ts }) k ≡ is_blocked (record { slots = ws; issued = us }) k) → (earlier : List Assigned) (cs : List Comp)
    → assigned_after (record { slots = ws; issued = ts }) earlier cs ≡ assigned_after (record { slots = ws; issued = us }) earlier cs
assigned_same ws ts us same earlier [] = refl
assigned_same ws ts us same earlier (c ∷ cs) =
    let make : Place → Assigned = λ p. record { comp = c; place = p } in
    let this : place_after (record { slots = ws; issued = ts }) earlier c.eto ≡ place_after (record { slots = ws; issued = us }) earlier c.eto = place_same ws ts us same earlier c.eto in
    ap (λ p. make p ∷ assigned_after (record { slots = ws; issued = ts }) (earlier ++ make p ∷ []) cs) this
    ∙ ap (λ rest. make (place_after (record { slots = ws; issued = us }) earlier c.eto) ∷ rest) (assigned_same ws ts us same (earlier ++ make (place_after (record { slots = ws; issued = us }) earlier c.eto) ∷ []) cs)

-- two issued flights that exchange their times move nobody, not even where their times lie in one window or in none
pub places_exchanged : (l : Listing) (a b : Text) (e f c d : ℕ) → AreInOrder l.flights → stance_of l a ≡ Some (Issued e c) → stance_of l b ≡ Some (Issued f d)
    → places (record l { flights = put (put l.flights a (Issued e d)) b (Issued f c) }) ≡ places l
places_exchanged l a b e f c d sorted here there =
    ap (λ cs. assignment (occupancy (record l { flights = es })) cs) comps
    ∙ assigned_same (slots l.profile) (times es) (times l.flights) blocked [] (competitors l)
  where
    es : List (Text × Stance)
    es = put (put l.flights a (Issued e d)) b (Issued f c)

    ordered : AreInOrder es
    ordered = sorted-put b (Issued f c) (put l.flights a (Issued e d)) (sorted-put a (Issued e d) l.flights sorted)

    blocked : (k : ℕ) → is_blocked (record { slots = slots l.profile; issued = times es }) k ≡ is_blocked (record { slots = slots l.profile; issued = times l.flights }) k
    blocked k = by (slice_get (slots l.profile) k)
      where
        by : (o : Option Window) → option_map_or (λ (w : Window). list_any (λ t. is_within t w) (times es)) o false ≡ option_map_or (λ (w : Window). list_any (λ t. is_within t w) (times l.flights)) o false
        by None = refl
        by (Some w) = any_exchanged (λ t. is_within t w) a b e f c d l.flights sorted here there

    each : (q : Text) (x : Bool) → is_eq (text_cmp q b) ≡ x → (y : Bool) → is_eq (text_cmp q a) ≡ y → option_and_then (competitor q) (at_name es q) ≡ option_and_then (competitor q) (at_name l.flights q)
    each q true h y g =
        subst (λ t. option_and_then (competitor t) (at_name es t) ≡ option_and_then (competitor t) (at_name l.flights t)) (sym (same_name q b h))
        (ap (option_and_then (competitor b)) (at-put_same b (Issued f c) (put l.flights a (Issued e d))) ∙ sym (ap (option_and_then (competitor b)) there))
    each q false h true g =
        subst (λ t. is_eq (text_cmp t b) ≡ false → option_and_then (competitor t) (at_name es t) ≡ option_and_then (competitor t) (at_name l.flights t)) (sym (same_name q a g))
        (λ off. ap (option_and_then (competitor a)) (at-put_other a b (Issued f c) (put l.flights a (Issued e d)) off ∙ at-put_same a (Issued e d) l.flights) ∙ sym (ap (option_and_then (competitor a)) here)) h
    each q false h false g = ap (option_and_then (competitor q)) (at-put_other q b (Issued f c) (put l.flights a (Issued e d)) h ∙ at-put_other q a (Issued e d) l.flights g)

    comps : competitors (record l { flights = es }) ≡ competitors l
    comps =
        ap (sorted_by is_before)
        (values_kept competitor es
        ∙ ap (λ (fs : List (Text × Comp)). map (λ (z : Text × Comp). z.1) fs)
        (same_entries (kept_by competitor es) (kept_by competitor l.flights) (sorted-kept_by competitor es ordered) (sorted-kept_by competitor l.flights sorted)
        (λ q. at-kept_by competitor q es ordered ∙ each q (is_eq (text_cmp q b)) refl (is_eq (text_cmp q a)) refl ∙ sym (at-kept_by competitor q l.flights sorted)))
        ∙ sym (values_kept competitor l.flights))

-- nor does a state's exchange move anybody, in any list
exchange_places : (m : State) (x : Exchange) (id : Text) → IsGood m → CanExchange m x → option_map places (list_of (with_exchange m x) id) ≡ option_map places (list_of m id)
exchange_places m x id good can = by (is_governed_by id x.row) refl
  where
    s : SharedBy m x
    s = shared_by m x good can

    l : Listing
    l = listing m.rows s.id s.first.measure

    is : list_of m s.id ≡ Some l
    is = ap (option_map (listing m.rows s.id)) s.first.is_open

    here : stance_of l x.key ≡ Some (Issued s.first.eto x.cto)
    here = governed_stands m x.key s.id x.row good can.here s.governs s.first ∙ ap (λ (w : Option ℕ). Some (stance true w s.first.eto)) can.issued

    there : stance_of l x.other ≡ Some (Issued s.second.eto x.time)
    there =
        ap (λ (y : Measure). stance_of (listing m.rows s.id y) x.other) (same_measure m x.row x.mate s.id s.first s.second)
        ∙ governed_stands m x.other s.id x.mate good can.there s.governs_mate s.second ∙ ap (λ (w : Option ℕ). Some (stance true w s.second.eto)) can.mate_issued

    own : option_map places (list_of (with_exchange m x) s.id) ≡ option_map places (list_of m s.id)
    own =
        ap (option_map places) (exchanged_list m x l good s is)
        ∙ ap (λ (ps : List Assigned). Some ps)
        (places_exchanged l x.key x.other s.first.eto s.second.eto x.cto x.time (sorted-kept (stance_in s.id s.first.measure) m.rows good.rows_in_order) here there)
        ∙ sym (ap (option_map places) is)

    by : (b : Bool) → is_governed_by id x.row ≡ b → option_map places (list_of (with_exchange m x) id) ≡ option_map places (list_of m id)
    by false off = ap (option_map places) (other_list m x id good can off)
    by true its =
        let both : Some s.id ≡ Some id = sym s.governs ∙ governed_name id x.row.governing its in
        let same : s.id ≡ id = cc in
        subst (λ (q : Text). option_map places (list_of (with_exchange m x) q) ≡ option_map places (list_of m q)) same own

-- nor does a call for an exchange
pub swap_places : (m : State) (key other id : Text) → IsGood m → option_map places (list_of (next m (Swap key other)) id) ≡ option_map places (list_of m id)
swap_places m key other id good =
    swap_cases m (λ s. option_map places (list_of (after m s) id) ≡ option_map places (list_of m id)) (λ r. refl) key other
    (λ row mate cto time can. exchange_places m (record { key = key; row = row; cto = cto; other = other; mate = mate; time = time }) id good can)
