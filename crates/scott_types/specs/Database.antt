-- A database as plain lists.
use Rattle.std.specs.Prelude.{ℕ, List, [], slice_index_or}
use Rattle.scott_types.specs.declared.parts.Header.{Header}
use Rattle.scott_types.specs.declared.parts.Action.{Action}
use Rattle.scott_types.specs.declared.parts.Word.{Word}
use Rattle.scott_types.specs.declared.parts.Room.{Room}
use Rattle.scott_types.specs.declared.parts.Item.{Item}
use Rattle.scott_types.specs.declared.parts.Trailer.{Trailer}
use Rattle.scott_types.specs.declared.parts.Parts.{Parts}

-- what a file says, and nothing of where it is kept
pub record Database : Type 0 where
  pub header : Header
  pub actions : List Action
  pub words : List Word
  pub rooms : List Room
  pub messages : List (List ℕ)
  pub items : List Item
  pub comments : List (List ℕ)
  pub trailer : Trailer

abbrev pub database_of : Parts → Database
database_of p = record {
  header = p.header;
  actions = p.actions.items;
  words = p.words.items;
  rooms = p.rooms.items;
  messages = p.messages.items;
  items = p.items.items;
  comments = p.comments.items;
  trailer = p.trailer;
}

-- ---- the entries of a number

-- an action that isn't there is empty
abbrev pub action_at : Database → ℕ → Action
action_at db action =
    slice_index_or db.actions action (record { vocab = 0; conds = []; pairs = [] })

-- an item that isn't there has no text, and is out of the game
abbrev pub item_in : List Item → ℕ → Item
item_in items item = slice_index_or items item (record { text = []; place = 0 })

abbrev pub item_at : Database → ℕ → Item
item_at db item = item_in db.items item

-- a room that isn't there has no exits and no text
abbrev pub room_at : Database → ℕ → Room
room_at db room = slice_index_or db.rooms room (record { exits = []; text = [] })

-- where an item is when the game begins
abbrev pub place_of_item : Item → ℕ
place_of_item item = item.place
