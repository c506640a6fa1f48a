-- A database whose lists are read as far as the bytes at hand go: what is to be read yet.
use Rattle.std.specs.Prelude.{ℕ, ◌≡◌, ◌+◌, ◌<◌, ◌≤◌, List, [], length, Option, Some, None}
use Rattle.scott_types.specs.declared.parts.Action.{Action}
use Rattle.scott_types.specs.declared.parts.Word.{Word}
use Rattle.scott_types.specs.declared.parts.Room.{Room}
use Rattle.scott_types.specs.declared.parts.Item.{Item}
use Rattle.scott_types.specs.Database.{Database}
use Rattle.scott_format.specs.declared.bodies.Head.{Head}
use Rattle.scott_format.specs.declared.bodies.Body.{Body}
use Rattle.scott_format.specs.Plan.{Plan, done, ◌>>=◌}
use Rattle.scott_format.specs.Sections.{action, word, room, string, item, trailer}
use Rattle.scott_format.specs.File.{file, header_of}
use Rattle.scott_format.specs.Pieces.{list_from}

-- ---- how many entries a list has

abbrev pub action_count : Body → ℕ
action_count b = b.head.sizes.actions + 1

abbrev pub word_count : Body → ℕ
word_count b = b.head.sizes.words + 1

abbrev pub room_count : Body → ℕ
room_count b = b.head.sizes.rooms + 1

abbrev pub message_count : Body → ℕ
message_count b = b.head.closing.messages + 1

abbrev pub item_count : Body → ℕ
item_count b = b.head.sizes.items + 1

-- ---- what is to be read yet, of the lists and the trailer

abbrev pub from_trailer : Body → List Action → List Word → List Room → List (List ℕ) → List Item
    → List (List ℕ) → Plan Database
from_trailer b actions words rooms messages items comments =
    trailer >>= λ last. done (record {
      header = header_of b.head.sizes b.head.numbers b.head.closing;
      actions = actions;
      words = words;
      rooms = rooms;
      messages = messages;
      items = items;
      comments = comments;
      trailer = last;
    })

abbrev pub from_comments : Body → List Action → List Word → List Room → List (List ℕ) → List Item
    → Plan Database
from_comments b actions words rooms messages items =
    list_from (λ k. string) (action_count b) b.comments.items
    >>= from_trailer b actions words rooms messages items

abbrev pub from_items : Body → List Action → List Word → List Room → List (List ℕ) → Plan Database
from_items b actions words rooms messages =
    list_from (λ k. item) (item_count b) b.items.items
    >>= from_comments b actions words rooms messages

abbrev pub from_messages : Body → List Action → List Word → List Room → Plan Database
from_messages b actions words rooms =
    list_from (λ k. string) (message_count b) b.messages.items
    >>= from_items b actions words rooms

abbrev pub from_rooms : Body → List Action → List Word → Plan Database
from_rooms b actions words =
    list_from (λ k. room) (room_count b) b.rooms.items >>= from_messages b actions words

abbrev pub from_words : Body → List Action → Plan Database
from_words b actions =
    list_from (λ k. word) (word_count b) b.words.items >>= from_rooms b actions

abbrev pub body_from : Body → Plan Database
body_from b = list_from action (action_count b) b.actions.items >>= from_words b

-- the same where the header may be to come yet
abbrev pub file_from : Option Body → Plan Database
file_from None = file
file_from (Some b) = body_from b

-- ---- the order of the lists

-- a list is begun only when the one before it is full
pub record InOrder (b : Body) : Type 0 where
  pub words : length b.actions.items < action_count b → length b.words.items ≡ 0
  pub rooms : length b.words.items < word_count b → length b.rooms.items ≡ 0
  pub messages : length b.rooms.items < room_count b → length b.messages.items ≡ 0
  pub items : length b.messages.items < message_count b → length b.items.items ≡ 0
  pub comments : length b.items.items < item_count b → length b.comments.items ≡ 0

abbrev pub AllInOrder : Option Body → Type 0
AllInOrder None = Unit {0}
AllInOrder (Some b) = InOrder b

-- no entry was read yet
pub record IsNew (h : Head) (b : Body) : Type 0 where
  pub head : b.head ≡ h
  pub actions : b.actions.items ≡ []
  pub words : b.words.items ≡ []
  pub rooms : b.rooms.items ≡ []
  pub messages : b.messages.items ≡ []
  pub items : b.items.items ≡ []
  pub comments : b.comments.items ≡ []

-- ---- which lists are read whole

abbrev pub ActionsRead : Body → Type 0
ActionsRead b = action_count b ≤ length b.actions.items

abbrev pub WordsRead : Body → Type 0
WordsRead b = ActionsRead b × (word_count b ≤ length b.words.items)

abbrev pub RoomsRead : Body → Type 0
RoomsRead b = WordsRead b × (room_count b ≤ length b.rooms.items)

abbrev pub MessagesRead : Body → Type 0
MessagesRead b = RoomsRead b × (message_count b ≤ length b.messages.items)

abbrev pub ItemsRead : Body → Type 0
ItemsRead b = MessagesRead b × (item_count b ≤ length b.items.items)

-- all lists
abbrev pub AreRead : Body → Type 0
AreRead b = ItemsRead b × (action_count b ≤ length b.comments.items)

abbrev pub FileRead : Option Body → Type 0
FileRead None = ⊥
FileRead (Some b) = AreRead b
