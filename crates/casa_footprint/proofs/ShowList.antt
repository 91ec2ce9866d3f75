-- Show and List
use Rattle.std.proofs.Common.{◌≡◌, ℕ, List, [], ◌∷◌, Bool, true, false, refl, sym, ap, ◌∙◌, Option, None, Some, ◌&&◌, ◌||◌, map}
use Rattle.std.specs.Option.{option_map, option_map_or}
use Rattle.std.specs.List.{AllByRecursion, list_any}
use Rattle.std.proofs.lemmas.Bool.{or_left, or_right}
use Rattle.casa_flight.specs.declared.call.Call.TheVariants.{Show, List as ListOf}
use Rattle.casa_flight.specs.declared.reply.Answer.TheVariants.{Done, List as ListAnswer}
use Rattle.casa_filing.specs.declared.regulation.Measure.{Measure}
use Rattle.casa_flight.specs.declared.row.Row.{Row}
use Rattle.casa_flight.specs.declared.row.Stance.{Stance}
use Rattle.casa_flight.specs.declared.row.Stance.TheVariants.{Competing, Issued, Forced}
use Rattle.casa_flight.specs.declared.state.State.{State}
use Rattle.casa_filing.specs.Text.{Text, same_text}
use Rattle.casa_filing.specs.Subject.{regulation}
use Rattle.casa_flight.specs.State.{row_of, measure_of, is_governed_by}
use Rattle.casa_flight.specs.Listing.{Listing, listing, list_of}
use Rattle.casa_flight.specs.Replies.{list_reply, list_answer}
use Rattle.casa_filing.proofs.Entries.{all-each}
use Rattle.casa_laws.proofs.Outcomes.{show_cases, list_cases}
use Rattle.casa_footprint.specs.Items.{the_clock, the_catalogue, a_row, a_list, AgreeOn}
use Rattle.casa_footprint.specs.Footprint.{governs, is_forced, has_flight, is_forced_in, governs_forced, reads}
use Rattle.casa_footprint.proofs.Names.{row_in, list_in, text_itself}
use Rattle.casa_footprint.proofs.Forms.{DecidesReads, Spares, StepSpares}

pub governs_own : (m : State) (key : Text) (row : Row) (id : Text) → row_of m key ≡ Some row → row.governing ≡ Some id → governs m id key ≡ true
governs_own m key row id e g =
    ap (λ (w : Option Row). option_map_or (is_governed_by id) w false) e ∙ ap (λ (w : Option Text). option_map_or (same_text id) w false) g ∙ text_itself id

pub show_reads : (key : Text) → DecidesReads (Show key)
show_reads key m n gm gn s the_clock = refl
show_reads key m n gm gn s the_catalogue = refl
show_reads key m n gm gn s (a_row other) = refl
show_reads key m n gm gn s (a_list id) = ap (λ (w : Option Row). option_map_or (is_governed_by id) w false) (row_in m n key (s (a_row key) (text_itself key)))

pub show_spares : (key : Text) → Spares (Show key)
show_spares key m good i = show_cases m (StepSpares m (Show key) i) (λ r h. refl) key (λ h. refl)

-- a test that an element of a list passes is passed in the list
abbrev pub IsIn : {X : Type 0} → List X → X → Type 0
IsIn {X} xs y = (p : X → Bool) → p y ≡ true → list_any p xs ≡ true

in_longer : {X : Type 0} (x : X) (ys xs : List X) → AllByRecursion (IsIn xs) ys → AllByRecursion (IsIn (x ∷ xs)) ys
in_longer x [] xs h = tt
in_longer x (y ∷ ys) xs h = (λ p e. or_right (p x) (list_any p xs) (h.0 p e), in_longer x ys xs h.1)

pub each_in : {X : Type 0} (xs : List X) → AllByRecursion (IsIn xs) xs
each_in [] = tt
each_in (x ∷ xs) = (λ p e. or_left (p x) (list_any p xs) e, in_longer x xs xs (each_in xs))

pub map-each : {X Y : Type 0} (f g : X → Y) (xs : List X) → AllByRecursion (λ (x : X). f x ≡ g x) xs → map f xs ≡ map g xs
map-each f g [] h = refl
map-each f g (x ∷ xs) h = λ i. h.0 i ∷ map-each f g xs h.1 i

any-each : {X : Type 0} (p q : X → Bool) (xs : List X) → AllByRecursion (λ (x : X). p x ≡ q x) xs → list_any p xs ≡ list_any q xs
any-each p q [] h = refl
any-each p q (x ∷ xs) h = λ i. h.0 i || any-each p q xs h.1 i

-- two good states that agree on what List reads, and the list there
record Same (m n : State) (id : Text) (l : Listing) : Type 0 where
  here : list_of m id ≡ Some l
  there : list_of n id ≡ Some l
  rows : (key : Text) → is_forced_in m id key ≡ true → row_of m key ≡ row_of n key
  lists : (other : Text) → governs_forced m id other ≡ true → list_of m other ≡ list_of n other

list_there : (id : Text) (m n : State) → AgreeOn (reads m (ListOf id)) m n → list_of m id ≡ list_of n id
list_there id m n s = list_in m n id (s (a_list id) (or_left (same_text id id) (governs_forced m id id) (text_itself id)))

same_at : (id : Text) (m n : State) (l : Listing) → AgreeOn (reads m (ListOf id)) m n → list_of m id ≡ Some l → Same m n id l
same_at id m n l s e = record {
  here = e;
  there = sym (list_there id m n s) ∙ e;
  rows = λ key h. row_in m n key (s (a_row key) h);
  lists = λ other h. list_in m n other (s (a_list other) (or_right (same_text id other) (governs_forced m id other) h));
}

-- a test that a flight of the list passes
pub some_flight : (m : State) (id : Text) (l : Listing) (test : Text → Stance → Bool) → list_of m id ≡ Some l → list_any (λ (e : Text × Stance). test e.0 e.1) l.flights ≡ true → has_flight m id test ≡ true
some_flight m id l test e h = ap (λ (w : Option Listing). option_map_or (λ (l : Listing). list_any (λ (e : Text × Stance). test e.0 e.1) l.flights) w false) e ∙ h

forced_row : (m n : State) (id : Text) (l : Listing) → Same m n id l → (key : Text) (eto : ℕ) → IsIn l.flights (key, Forced eto) → row_of m key ≡ row_of n key
forced_row m n id l s key eto is =
    s.rows key (some_flight m id l (λ k x. is_forced x && same_text key k) s.here (is (λ (e : Text × Stance). is_forced e.1 && same_text key e.0) (text_itself key)))

pub answer_at : (m : State) (id : Text) (measure : Measure) (l : Listing) → measure_of m id ≡ Some measure → list_of m id ≡ Some l → list_answer m id ≡ ListAnswer (list_reply m (regulation id measure) l)
answer_at m id measure l p e =
    let is : Some (listing m.rows id measure) ≡ Some l = sym (ap (option_map (listing m.rows id)) p) ∙ e in
    ap (λ (w : Option Measure). option_map_or (λ (y : Measure). ListAnswer (list_reply m (regulation id y) (listing m.rows id y))) w Done) p
    ∙ ap (λ (w : Option Listing). option_map_or (λ (k : Listing). ListAnswer (list_reply m (regulation id measure) k)) w Done) is

governs_forced_same : (m n : State) (id other : Text) → AgreeOn (reads m (ListOf id)) m n → governs_forced m id other ≡ governs_forced n id other
governs_forced_same m n id other s = by (list_of m id) refl ∙ ap (λ (w : Option Listing). option_map_or (λ (l : Listing). list_any (test n) l.flights) w false) (list_there id m n s)
  where
    test : State → Text × Stance → Bool
    test t e = is_forced e.1 && governs t other e.0

    flight : (l : Listing) → Same m n id l → (key : Text) (x : Stance) → IsIn l.flights (key, x) → (is_forced x && governs m other key) ≡ (is_forced x && governs n other key)
    flight l both key (Competing eto) is = refl
    flight l both key (Issued eto cto) is = refl
    flight l both key (Forced eto) is = ap (λ (w : Option Row). option_map_or (is_governed_by other) w false) (forced_row m n id l both key eto is)

    by : (w : Option Listing) → list_of m id ≡ w → option_map_or (λ (l : Listing). list_any (test m) l.flights) w false ≡ option_map_or (λ (l : Listing). list_any (test n) l.flights) w false
    by None e = refl
    by (Some l) e =
        any-each (test m) (test n) l.flights (all-each (IsIn l.flights) (λ (e : Text × Stance). test m e ≡ test n e) (λ y is. flight l (same_at id m n l s e) y.0 y.1 is) l.flights (each_in l.flights))

pub list_reads : (id : Text) → DecidesReads (ListOf id)
list_reads id m n gm gn s the_clock = refl
list_reads id m n gm gn s the_catalogue = refl
list_reads id m n gm gn s (a_row key) = ap (λ (w : Option Listing). option_map_or (λ (l : Listing). list_any (λ (e : Text × Stance). is_forced e.1 && same_text key e.0) l.flights) w false) (list_there id m n s)
list_reads id m n gm gn s (a_list other) = ap (λ b. same_text id other || b) (governs_forced_same m n id other s)

pub list_spares : (id : Text) → Spares (ListOf id)
list_spares id m good i = list_cases m (StepSpares m (ListOf id) i) (λ r h. refl) id (λ h. refl)
