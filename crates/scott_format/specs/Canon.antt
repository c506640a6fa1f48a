-- The one text that is written of a database.
use Rattle.std.specs.Prelude.{ℕ, ◌-◌, List, [], ◌∷◌, ◌++◌, length, map, ℤ, pos}
use Rattle.std.specs.List.{flat_map}
use Rattle.adv_text.specs.Writing.{number_text, quoted_text}
use Rattle.scott_types.specs.declared.parts.Action.{Action}
use Rattle.scott_types.specs.declared.parts.Word.{Word}
use Rattle.scott_types.specs.declared.parts.Room.{Room}
use Rattle.scott_types.specs.declared.parts.Item.{Item}
use Rattle.scott_types.specs.declared.parts.Trailer.{Trailer}
use Rattle.scott_types.specs.Database.{Database}

-- what a line is made of
pub data Token : Type 0 where
  num : ℤ → Token
  str : List ℕ → Token

abbrev pub token_text : Token → List ℕ
token_text (num z) = number_text z
token_text (str t) = quoted_text t

-- tokens with one space between, and byte 10
abbrev pub line_text : List Token → List ℕ
line_text [] = 10 ∷ []
line_text (t ∷ []) = token_text t ++ 10 ∷ []
line_text (t ∷ u ∷ ts) = token_text t ++ 32 ∷ line_text (u ∷ ts)

-- a number with a space after it
abbrev pub number_and_space : ℤ → List ℕ
number_and_space z = number_text z ++ 32 ∷ []

-- ---- the lines

-- the number of the last entry
abbrev pub highest : {X : Type 0} → List X → ℤ
highest xs = pos (length xs - 1)

-- the header's numbers but the last
abbrev pub header_numbers : Database → List ℤ
header_numbers db =
    db.header.unused ∷ highest db.items ∷ highest db.actions ∷ highest db.words ∷ highest db.rooms
    ∷ db.header.carry ∷ pos db.header.start ∷ db.header.treasures ∷ pos db.header.length
    ∷ db.header.light
    ∷ highest db.messages ∷ []

abbrev pub header_line : Database → List Token
header_line db = map num (header_numbers db) ++ num db.header.home ∷ []

abbrev pub action_line : Action → List Token
action_line a = map (λ n. num (pos n)) (a.vocab ∷ (a.conds ++ a.pairs))

abbrev pub word_line : Word → List Token
word_line w = str w.verb ∷ str w.noun ∷ []

abbrev pub room_line : Room → List Token
room_line r = map num r.exits ++ str r.text ∷ []

abbrev pub string_line : List ℕ → List Token
string_line t = str t ∷ []

abbrev pub item_line : Item → List Token
item_line i = str i.text ∷ num (pos i.place) ∷ []

abbrev pub trailer_line : Trailer → List Token
trailer_line t = map num (t.version ∷ t.adventure ∷ t.third ∷ [])

-- a line for each entry
abbrev pub lines_text : {X : Type 0} → (X → List Token) → List X → List ℕ
lines_text line xs = flat_map (λ x. line_text (line x)) xs

-- the header's line, a line for each entry of the lists in the order of the file, and the trailer's
-- line
abbrev pub canon : Database → List ℕ
canon db =
    line_text (header_line db)
    ++ (lines_text action_line db.actions
    ++ (lines_text word_line db.words
    ++ (lines_text room_line db.rooms
    ++ (lines_text string_line db.messages
    ++ (lines_text item_line db.items
    ++ (lines_text string_line db.comments
    ++ line_text (trailer_line db.trailer)))))))
