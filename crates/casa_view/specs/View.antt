-- to believe: what a view holds and shows, and when it is current
use Rattle.std.specs.Prelude.{◌≡◌, List, Bool, true, Option, None, Some, if◌then◌else◌}
use Rattle.std.specs.Option.{option_map}
use Rattle.casa_flight.specs.declared.call.Call.{Call}
use Rattle.casa_flight.specs.declared.state.State.{State}
use Rattle.casa_filing.specs.Text.{Text, at_name}
use Rattle.casa_flight.specs.Good.{IsGood}
use Rattle.casa_footprint.specs.Items.{ItemName, the_clock, the_catalogue, a_row, a_list, Content, contents}
use Rattle.casa_footprint.specs.Footprint.{reads}
use Rattle.casa_item.specs.declared.item.Item.{Item}
use Rattle.casa_view.specs.declared.view.View.{View}
use Rattle.casa_view.specs.declared.view.Part.{Part}
use Rattle.casa_view.specs.declared.view.Part.TheVariants.{All, Named}
use Rattle.casa_table.specs.Same.{same_version}
use Rattle.casa_item.specs.Versions.{Versions, version_at, content_as}

-- the version that a view has under a name, or that there is none; it may not hold the name
abbrev pub seen_in : {K V I : Type 0} → Part K V I → Text → Option (Option V)
seen_in (All entries) name = Some (at_name entries name)
seen_in (Named noted) name = at_name noted name

abbrev pub seen : {V : Type 0} → View V → ItemName → Option (Option V)
seen v the_clock = option_map Some v.clock
seen v the_catalogue = option_map Some v.catalogue
seen v (a_row key) = seen_in v.rows key
seen v (a_list id) = seen_in v.lists id

-- inner: the view holds the items that pass the test, with their versions, and no others
abbrev pub IsTaken : {V : Type 0} → Versions V → (ItemName → Bool) → View V → Type 0
IsTaken vs test v = (i : ItemName) → seen v i ≡ (if test i then Some (version_at vs i) else None)

-- what a view shows of an item that it holds
abbrev pub content_shown : {V : Type 0} → (V → Item) → View V → ItemName → Option Content
content_shown {V} item_of v i = option_map (λ (w : Option V). content_as i (option_map item_of w)) (seen v i)

-- a view shows a state
abbrev pub Shows : {V : Type 0} → (V → Item) → State → View V → Type 0
Shows item_of m v = (i : ItemName) (x : Content) → content_shown item_of v i ≡ Some x → contents m i ≡ x

-- a view shows exactly what a call reads in a state, as it is there
abbrev pub IsViewOf : {V : Type 0} → (V → Item) → State → Call → View V → Type 0
IsViewOf item_of at call v =
    (i : ItemName) → content_shown item_of v i ≡ (if reads at call i then Some (contents at i) else None)

-- a view for a call holds what the call reads in some good state
abbrev pub IsFor : {V : Type 0} → (V → Item) → View V → Call → Type 0
IsFor item_of v call = (at : State) × IsGood at × IsViewOf item_of at call v

-- inner: whether a version is the one that a view holds; so too where it holds none
abbrev pub same_held : {V : Type 0} → (V → V → Bool) → V → Option V → Bool
same_held is_same m None = true
same_held is_same m (Some n) = is_same m n

-- all versions of a view are the present ones
abbrev pub IsCurrent : {V : Type 0} → (V → V → Bool) → Versions V → View V → Type 0
IsCurrent {V} is_same vs v =
    (i : ItemName) (w : Option V) → seen v i ≡ Some w → same_version is_same (version_at vs i) w ≡ true

-- inner: the versions of a view show the items as they now stand
abbrev pub ShowsSame : {V W : Type 0} → (V → W) → Versions V → View V → Type 0
ShowsSame {V} item_of vs v =
    (i : ItemName) (w : Option V) → seen v i ≡ Some w → option_map item_of (version_at vs i) ≡ option_map item_of w

-- inner: the versions that a part holds are those of these entries; and, below, they show the same items
abbrev pub IsSamePart : {K V I : Type 0} → (V → V → Bool) → List (Text × V) → Part K V I → Type 0
IsSamePart {K} {V} is_same es part =
    (q : Text) (w : Option V) → seen_in part q ≡ Some w → same_version is_same (at_name es q) w ≡ true

-- inner: the versions that a part holds show the items of these entries
abbrev pub ShowsPart : {K V I W : Type 0} → (V → W) → List (Text × V) → Part K V I → Type 0
ShowsPart {K} {V} item_of es part =
    (q : Text) (w : Option V) → seen_in part q ≡ Some w → option_map item_of (at_name es q) ≡ option_map item_of w
