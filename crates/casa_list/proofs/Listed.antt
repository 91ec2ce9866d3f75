-- how many issued flights of a list lie in each slot
use Rattle.std.proofs.Common.{◌≡◌, ℕ, ◌+◌, List, [], ◌∷◌, ◌++◌, append-nil, Bool, true, false, refl, sym, ◌∙◌, ap, cond, Option, None, Some, count_by}
use Rattle.std.specs.declared.cmp.Ordering.TheVariants.{Less, Equal, Greater}
use Rattle.std.specs.Ordering.{is_eq, match_ordering}
use Rattle.std.specs.List.{cons_option, filter_map}
use Rattle.std.proofs.lemmas.List.Sums.{sum_by-append}
use Rattle.std.proofs.lemmas.Bool.{both_ways}
use Rattle.casa_grid.specs.declared.slot.Window.{Window}
use Rattle.casa_grid.specs.Slots.{slots, is_within}
use Rattle.casa_flight.specs.declared.comp.Comp.{Comp}
use Rattle.casa_flight.specs.declared.row.Stance.{Stance}
use Rattle.casa_flight.specs.declared.row.Stance.TheVariants.{Competing, Issued, Forced}
use Rattle.casa_filing.specs.Text.{Text, put}
use Rattle.casa_flight.specs.Listing.{Listing, insert_sorted, issued_cto, occupancy}
use Rattle.casa_flight.proofs.PutBy.{put_first, put_later}
use Rattle.casa_filing.proofs.Entries.{text_cmp}
use Rattle.casa_slots.specs.Blocked.{counts, issued_counts, time_of, times_in}
use Rattle.casa_list.specs.Standings.{issued_flight, is_flight_before, issued_flights}
use Rattle.casa_slots.specs.declared.standing.Standing.{Standing}
use Rattle.casa_list.proofs.Ordered.{IsAbsent, put_all}
use Rattle.casa_slots.proofs.Rightly.{count_by-cons}
use Rattle.casa_slots.proofs.Counts.{swapped}

-- a time among those of the entries counts as one in front
pub count_by-put : {S : Type 0} (p : ℕ → Bool) (kind : Text × S → Option ℕ) (k : Text) (v : S) (t : ℕ) → kind (k, v) ≡ Some t → (es : List (Text × S)) → IsAbsent k es → count_by p (filter_map kind (put es k v)) ≡ count_by p (t ∷ filter_map kind es)
count_by-put p kind k v t is [] h = ap (λ (o : Option ℕ). count_by p (cons_option o [])) is
count_by-put {S} p kind k v t is (e ∷ es) h =
    elim (text_cmp k e.0) as (λ r. text_cmp k e.0 ≡ r → count_by p (filter_map kind (match_ordering r ((k, v) ∷ e ∷ es) ((e.0, v) ∷ es) (e ∷ put es k v))) ≡ count_by p (t ∷ filter_map kind (e ∷ es))) [
      | Less ↦ λ c. ap (λ (o : Option ℕ). count_by p (cons_option o (filter_map kind (e ∷ es)))) is
      | Equal ↦ λ c. absurd (both_ways _ h.0 (ap is_eq c))
      | Greater ↦ λ c.
          elim (kind e) as (λ (o : Option ℕ). count_by p (cons_option o (filter_map kind (put es k v))) ≡ count_by p (t ∷ cons_option o (filter_map kind es))) [
            | None ↦ count_by-put p kind k v t is es h.1
            | Some u ↦
                count_by-cons p u (filter_map kind (put es k v))
                ∙ ap (λ n. cond (p u) 1 0 + n) (count_by-put p kind k v t is es h.1 ∙ count_by-cons p t (filter_map kind es))
                ∙ swapped (cond (p u) 1 0) (cond (p t) 1 0) (count_by p (filter_map kind es))
                ∙ sym (count_by-cons p t (u ∷ filter_map kind es) ∙ ap (λ n. cond (p t) 1 0 + n) (count_by-cons p u (filter_map kind es)))
          ]
    ] refl

pub counts-put : {S : Type 0} (ws : List Window) (kind : Text × S → Option ℕ) (k : Text) (v : S) (t : ℕ) → kind (k, v) ≡ Some t → (es : List (Text × S)) → IsAbsent k es → counts ws (filter_map kind (put es k v)) ≡ counts ws (t ∷ filter_map kind es)
counts-put [] kind k v t is es h = refl
counts-put (w ∷ ws) kind k v t is es h = λ i. count_by-put (λ u. is_within u w) kind k v t is es h i ∷ counts-put ws kind k v t is es h i

-- the issued flights in another order count the same
count_by-put_by : (p : ℕ → Bool) (f : Comp × Standing) (gs : List (Comp × Standing)) → count_by p (times_in (insert_sorted is_flight_before f gs)) ≡ count_by p (times_in (f ∷ gs))
count_by-put_by p f [] = refl
count_by-put_by p f (g ∷ gs) =
    elim (is_flight_before g f) as (λ b. is_flight_before g f ≡ b → count_by p (times_in (insert_sorted is_flight_before f (g ∷ gs))) ≡ count_by p (times_in (f ∷ g ∷ gs))) [
      | true ↦ λ e.
          ap (λ (hs : List (Comp × Standing)). count_by p (times_in hs)) (put_later is_flight_before f g gs e)
          ∙ front (time_of g.1) (times_in (insert_sorted is_flight_before f gs)) (times_in (f ∷ gs)) (count_by-put_by p f gs)
          ∙ swap_options (time_of g.1) (time_of f.1) (times_in gs)
      | false ↦ λ e. ap (λ (hs : List (Comp × Standing)). count_by p (times_in hs)) (put_first is_flight_before f g gs e)
    ] refl
  where
    front : (o : Option ℕ) (ts us : List ℕ) → count_by p ts ≡ count_by p us → count_by p (cons_option o ts) ≡ count_by p (cons_option o us)
    front None ts us e = e
    front (Some t) ts us e = count_by-cons p t ts ∙ ap (λ n. cond (p t) 1 0 + n) e ∙ sym (count_by-cons p t us)

    swap_options : (o w : Option ℕ) (ts : List ℕ) → count_by p (cons_option o (cons_option w ts)) ≡ count_by p (cons_option w (cons_option o ts))
    swap_options None w ts = refl
    swap_options (Some t) None ts = refl
    swap_options (Some t) (Some u) ts =
        count_by-cons p t (u ∷ ts) ∙ ap (λ n. cond (p t) 1 0 + n) (count_by-cons p u ts)
        ∙ swapped (cond (p t) 1 0) (cond (p u) 1 0) (count_by p ts)
        ∙ sym (count_by-cons p u (t ∷ ts) ∙ ap (λ n. cond (p u) 1 0 + n) (count_by-cons p t ts))

-- counts of flights in front of the same others
count_by-both : (p : ℕ → Bool) (ts us vs : List ℕ) → count_by p ts ≡ count_by p us → count_by p (ts ++ vs) ≡ count_by p (us ++ vs)
count_by-both p ts us vs e =
    sum_by-append (λ t. cond (p t) 1 0) ts vs ∙ ap (λ n. n + count_by p vs) e ∙ sym (sum_by-append (λ t. cond (p t) 1 0) us vs)

count_by-put_all : (p : ℕ → Bool) (gs fs : List (Comp × Standing)) → count_by p (times_in (put_all (λ (f : Comp × Standing). f.0) gs fs)) ≡ count_by p (times_in gs ++ times_in fs)
count_by-put_all p gs [] = ap (count_by p) (sym (append-nil (times_in gs)))
count_by-put_all p gs (f ∷ fs) =
    count_by-put_all p (insert_sorted is_flight_before f gs) fs
    ∙ count_by-both p (times_in (insert_sorted is_flight_before f gs)) (times_in (f ∷ gs)) (times_in fs) (count_by-put_by p f gs)
    ∙ moved (time_of f.1)
  where
    moved : (o : Option ℕ) → count_by p (cons_option o (times_in gs) ++ times_in fs) ≡ count_by p (times_in gs ++ cons_option o (times_in fs))
    moved None = refl
    moved (Some t) =
        count_by-cons p t (times_in gs ++ times_in fs)
        ∙ ap (λ n. cond (p t) 1 0 + n) (sum_by-append (λ u. cond (p u) 1 0) (times_in gs) (times_in fs))
        ∙ swapped (cond (p t) 1 0) (count_by p (times_in gs)) (count_by p (times_in fs))
        ∙ ap (λ n. count_by p (times_in gs) + n) (sym (count_by-cons p t (times_in fs)))
        ∙ sym (sum_by-append (λ u. cond (p u) 1 0) (times_in gs) (t ∷ times_in fs))

counts-put_all : (ws : List Window) (fs : List (Comp × Standing)) → counts ws (times_in (put_all (λ (f : Comp × Standing). f.0) [] fs)) ≡ counts ws (times_in fs)
counts-put_all [] fs = refl
counts-put_all (w ∷ ws) fs = λ i. count_by-put_all (λ u. is_within u w) [] fs i ∷ counts-put_all ws fs i

time_kind : (key : Text) (s : Stance) (fs : List (Comp × Standing)) (ts : List ℕ) → times_in fs ≡ ts → times_in (cons_option (issued_flight key s) fs) ≡ cons_option (issued_cto s) ts
time_kind key (Competing eto) fs ts e = e
time_kind key (Issued eto cto) fs ts e = ap (λ us. cto ∷ us) e
time_kind key (Forced eto) fs ts e = e

times-kinds : (es : List (Text × Stance)) → times_in (filter_map (λ (e : Text × Stance). issued_flight e.0 e.1) es) ≡ filter_map (λ (e : Text × Stance). issued_cto e.1) es
times-kinds [] = refl
times-kinds (e ∷ es) = time_kind e.0 e.1 (filter_map (λ (f : Text × Stance). issued_flight f.0 f.1) es) (filter_map (λ (f : Text × Stance). issued_cto f.1) es) (times-kinds es)

-- the issued flights of a list are those that its occupancy counts
pub counts-issued : (l : Listing) → counts (slots l.profile) (times_in (issued_flights l)) ≡ issued_counts (occupancy l)
counts-issued l =
    counts-put_all (slots l.profile) (filter_map (λ (e : Text × Stance). issued_flight e.0 e.1) l.flights) ∙ ap (counts (slots l.profile)) (times-kinds l.flights)
