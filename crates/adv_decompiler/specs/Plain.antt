-- The plain text of a database: its header, lists and trailer in the order of a source.
use Rattle.std.specs.Prelude.{ℕ, ◌+◌, List, [], ◌∷◌, ◌++◌, map, zip, pos, codes}
use Rattle.adv_io.specs.Text.{newline}
use Rattle.scott_types.specs.declared.parts.Header.{Header}
use Rattle.scott_types.specs.declared.parts.Word.{Word}
use Rattle.scott_types.specs.declared.parts.Room.{Room}
use Rattle.scott_types.specs.declared.parts.Item.{Item}
use Rattle.scott_types.specs.declared.parts.Trailer.{Trailer}
use Rattle.scott_types.specs.Database.{Database}
use Rattle.source_reader.specs.declared.tokens.Token.{Token}
use Rattle.source_reader.specs.declared.tokens.Token.TheVariants as token
use Rattle.adv_decompiler.specs.declared.sizes.Sizes.{Sizes}
use Rattle.adv_decompiler.specs.Layout.{Chunk, joined, spaced, below, chunk, text_of, word, quoted, mark, semicolon, listed, section}
use Rattle.adv_decompiler.specs.References.{sizes_of, room_name, message_name, item_name, room_token, exit_token, place_token}
use Rattle.adv_decompiler.specs.Lines.{action_line}

-- ---- the header

abbrev pub setting : List ℕ → Token → List Chunk
setting name value = word below name ∷ chunk spaced value ∷ semicolon ∷ []

abbrev pub first_settings : Sizes → Header → List Chunk
first_settings sizes h =
    setting (codes "unused") (token.Number h.unused)
    ++ (setting (codes "carry") (token.Number h.carry)
    ++ setting (codes "start") (room_token sizes h.start))

abbrev pub middle_settings : Header → List Chunk
middle_settings h =
    setting (codes "treasures") (token.Number h.treasures)
    ++ setting (codes "length") (token.Number (pos h.length))

abbrev pub last_settings : Sizes → Header → List Chunk
last_settings sizes h =
    setting (codes "light") (token.Number h.light)
    ++ setting (codes "home") (exit_token sizes h.home)

abbrev pub header_lines : Sizes → Header → List Chunk
header_lines sizes h = first_settings sizes h ++ (middle_settings h ++ last_settings sizes h)

-- ---- a line for each entry

abbrev pub word_line : Sizes → ℕ → Word → List Chunk
word_line sizes k w = quoted below w.verb ∷ quoted spaced w.noun ∷ semicolon ∷ []

abbrev pub room_line : Sizes → ℕ → Room → List Chunk
room_line sizes k room =
    word below (codes "room") ∷ word spaced (room_name k) ∷ quoted spaced room.text ∷ mark joined 58
    ∷ (listed spaced (map (exit_token sizes) room.exits) ++ semicolon ∷ [])

abbrev pub message_line : Sizes → ℕ → List ℕ → List Chunk
message_line sizes k text =
    word below (codes "message") ∷ word spaced (message_name k) ∷ quoted spaced text ∷ semicolon
    ∷ []

abbrev pub item_line : Sizes → ℕ → Item → List Chunk
item_line sizes k item =
    word below (codes "item") ∷ word spaced (item_name k) ∷ quoted spaced item.text ∷ mark joined 58
    ∷ chunk spaced (place_token sizes item.place) ∷ semicolon ∷ []

abbrev pub trailer_line : Trailer → List Chunk
trailer_line t =
    chunk below (token.Number t.version) ∷ chunk spaced (token.Number t.adventure)
    ∷ chunk spaced (token.Number t.third) ∷ []

-- ---- the whole

-- the lines of entries, of which the first one has this number
abbrev pub lines_from : {X : Type 0} → (ℕ → X → List Chunk) → ℕ → List X → List Chunk
lines_from line k [] = []
lines_from line k (x ∷ xs) = line k x ++ lines_from line (k + 1) xs

abbrev pub lines_of : {X : Type 0} → (ℕ → X → List Chunk) → List X → List Chunk
lines_of line xs = lines_from line 0 xs

abbrev pub chunks : Sizes → Database → List Chunk
chunks sizes db =
    section joined (codes "header") (header_lines sizes db.header)
    ++ (section below (codes "words") (lines_of (word_line sizes) db.words)
    ++ (section below (codes "rooms") (lines_of (room_line sizes) db.rooms)
    ++ (section below (codes "messages") (lines_of (message_line sizes) db.messages)
    ++ (section below (codes "items") (lines_of (item_line sizes) db.items)
    ++ (section below (codes "lines") (lines_of (action_line sizes) (zip db.actions db.comments))
    ++ section below (codes "trailer") (trailer_line db.trailer))))))

unfoldable pub plain : Database → List ℕ
plain db = text_of (chunks (sizes_of db) db) ++ newline ∷ []
