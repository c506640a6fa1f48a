-- How the text refers to rooms, messages and items: by names of a letter and a number, where they
-- are there.
use Rattle.std.specs.Prelude.{ℕ, ◌&&◌, ◌==◌, nat_le, nat_lt, if◌then◌else◌, List, ◌∷◌, length, ℤ, pos, negsuc, codes}
use Rattle.std.specs.Fmt.{decimal}
use Rattle.scott_types.specs.Database.{Database}
use Rattle.scott_types.specs.State.{carried_place}
use Rattle.scott_types.specs.declared.parameters.Parameter.{Parameter}
use Rattle.scott_types.specs.declared.parameters.Parameter.TheVariants.{Item, Room, Place}
use Rattle.source_reader.specs.declared.tokens.Token.{Token}
use Rattle.source_reader.specs.declared.tokens.Token.TheVariants as token
use Rattle.adv_decompiler.specs.declared.sizes.Sizes.{Sizes}

-- how many rooms, messages and items there are
abbrev pub sizes_of : Database → Sizes
sizes_of db =
    record { rooms = length db.rooms; messages = length db.messages; items = length db.items }

-- ---- names; `r` is 114, `m` is 109, `i` is 105

abbrev pub room_name : ℕ → List ℕ
room_name k = 114 ∷ decimal k

abbrev pub message_name : ℕ → List ℕ
message_name k = 109 ∷ decimal k

abbrev pub item_name : ℕ → List ℕ
item_name k = 105 ∷ decimal k

-- ---- references

abbrev pub number_token : ℕ → Token
number_token n = token.Number (pos n)

-- room 0 is never written by its name, since 0 stands for no room, too
abbrev pub room_token : Sizes → ℕ → Token
room_token sizes n =
    if nat_le 1 n && nat_lt n sizes.rooms then token.Word (room_name n) else number_token n

abbrev pub exit_token : Sizes → ℤ → Token
exit_token sizes (pos n) = room_token sizes n
exit_token sizes (negsuc n) = token.Number (negsuc n)

abbrev pub message_token : Sizes → ℕ → Token
message_token sizes n =
    if nat_lt n sizes.messages then token.Word (message_name n) else number_token n

abbrev pub item_token : Sizes → ℕ → Token
item_token sizes n = if nat_lt n sizes.items then token.Word (item_name n) else number_token n

-- where an item is when a game begins
abbrev pub place_token : Sizes → ℕ → Token
place_token sizes place =
    if place == carried_place then token.Word (codes "carried")
    else if place == 0 then token.Word (codes "nowhere")
    else room_token sizes place

-- what a condition's argument or an opcode's parameter names: flags, counters and the like have no
-- names
abbrev pub thing_token : Sizes → Parameter → ℕ → Token
thing_token sizes Item n = item_token sizes n
thing_token sizes Room n = room_token sizes n
thing_token sizes Place n = room_token sizes n
thing_token sizes _ n = number_token n
