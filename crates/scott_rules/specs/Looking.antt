-- What a look, the inventory and the score say, in a style.
use Rattle.std.specs.Prelude.{ℕ, ◌*◌, ◌==◌, ◌&&◌, Bool, not, List, [], ◌∷◌, ◌++◌, map, filter, zip, drop, length, count_by, decimal, ℤ, pos, int_div, if◌then◌else◌}
use Rattle.adv_io.specs.Text.{joined, joined_or}
use Rattle.std.specs.Ordering.{int_eq}
use Rattle.std.specs.Fmt.{signed_decimal}
use Rattle.scott_types.specs.declared.parts.Item.{Item}
use Rattle.scott_types.specs.declared.states.State.{State}
use Rattle.scott_types.specs.declared.phrases.Phrase.{Phrase}
use Rattle.scott_types.specs.declared.styles.Style.{Style}
use Rattle.scott_types.specs.declared.phrases.Phrase.TheVariants.{TooDark, InA, ObviousExits, North, South, East, West, Up, Down, NoExits, BetweenExits, ListEnd, AlsoSee, BetweenItems, CarryingList, NothingCarried, Stored, Rating, WellDone, GameOver, Newline}
use Rattle.scott_types.specs.Database.{Database, room_at}
use Rattle.scott_types.specs.ItemText.{is_starred, shown, is_treasure}
use Rattle.scott_types.specs.Room.{room_beyond}
use Rattle.scott_types.specs.State.{is_dark, carried_place}
use Rattle.scott_types.specs.Phrase.{text_of, text_in}
use Rattle.scott_types.specs.Style.{Game}

-- ---- lists in a text

-- the texts of the entries whose partner passes
abbrev pub chosen : {A B : Type 0} → (B → Bool) → (A → List ℕ) → List A → List B → List (List ℕ)
chosen passes text entries partners =
    map (λ pair. text pair.0) (filter (λ pair. passes pair.1) (zip entries partners))

-- ---- the look

-- a room's text, with `I'm in a` unless it begins with `*`
abbrev pub described : Style → List ℕ → List ℕ
described style text = if is_starred text then drop 1 text else text_in style InA ++ text

abbrev pub directions : List Phrase
directions = North ∷ South ∷ East ∷ West ∷ Up ∷ Down ∷ []

abbrev pub exit_names : Database → ℕ → List (List ℕ)
exit_names db room =
    chosen (λ exit. not (room_beyond (length db.rooms) exit == 0)) text_of directions
    (room_at db room).exits

abbrev pub exits_listed : List (List ℕ) → List ℕ
exits_listed names =
    text_of ObviousExits
    ++ (joined_or (text_of NoExits) (text_of BetweenExits) names ++ text_of ListEnd)

-- what is shown of the items whose place is this one
abbrev pub items_at_place : List Item → List ℕ → ℕ → List (List ℕ)
items_at_place items places place =
    chosen (λ at. at == place) (λ item. shown item.text) items places

abbrev pub items_at : Database → State → ℕ → List (List ℕ)
items_at db s place = items_at_place db.items s.places.items place

abbrev pub items_seen : Style → List (List ℕ) → List ℕ
items_seen style [] = []
items_seen style (text ∷ texts) =
    text_in style AlsoSee ++ (joined (text_of BetweenItems) (text ∷ texts) ++ text_of Newline)

abbrev pub seen_in_light : Game → State → List ℕ
seen_in_light game s =
    described game.style (room_at game.db s.room).text
    ++ (exits_listed (exit_names game.db s.room)
    ++ items_seen game.style (items_at game.db s s.room))

abbrev pub looked : Game → State → List ℕ
looked game s = if is_dark s then text_in game.style TooDark else seen_in_light game s

-- ---- the inventory

abbrev pub inventory : Game → State → List ℕ
inventory game s =
    text_in game.style CarryingList
    ++ (joined_or (text_of NothingCarried) (text_of BetweenItems) (items_at game.db s carried_place)
    ++ text_of ListEnd)

-- ---- the score

-- an item is a treasure, and its place is the treasure room
abbrev pub is_stored : ℤ → Item → ℕ → Bool
is_stored home item place = is_treasure item.text && int_eq (pos place) home

abbrev pub count_stored : ℤ → List Item → List ℕ → ℕ
count_stored home items places = count_by (λ pair. is_stored home pair.0 pair.1) (zip items places)

-- how many treasures are where treasures are stored
abbrev pub stored_count : Database → State → ℕ
stored_count db s = count_stored db.header.home db.items s.places.items

-- how many hundredths of all treasures are stored, toward zero, and 0 where there are none to store
abbrev pub rate : ℤ → ℕ → ℤ
rate treasures stored =
    if int_eq treasures (pos 0) then pos 0 else int_div (pos (stored * 100)) treasures

-- there are treasures to store, and as many are stored
abbrev pub is_full_score : ℤ → ℕ → Bool
is_full_score treasures stored = not (int_eq treasures (pos 0)) && int_eq (pos stored) treasures

abbrev pub all_stored : Database → State → Bool
all_stored db s = is_full_score db.header.treasures (stored_count db s)

abbrev pub praise : Bool → List ℕ
praise all = if all then text_of WellDone ++ text_of GameOver else []

-- the texts of a score, around its two numbers
abbrev pub score_around : Style → List ℕ → List ℕ → Bool → List ℕ
score_around style stored hundredths full =
    text_in style Stored
    ++ (stored ++ (text_of Rating ++ (hundredths ++ (text_of ListEnd ++ praise full))))

abbrev pub score_text : Style → ℤ → ℕ → List ℕ
score_text style treasures stored =
    score_around style (decimal stored) (signed_decimal (rate treasures stored))
    (is_full_score treasures stored)

abbrev pub scored : Game → State → List ℕ
scored game s = score_text game.style game.db.header.treasures (stored_count game.db s)
