-- What an opcode says and does with its parameters.
use Rattle.std.specs.Prelude.{Option, Some, None, ℕ, ◌-◌, ◌%◌, ◌==◌, ◌||◌, ◌&&◌, Bool, true, false, List, [], ◌∷◌, ◌++◌, length, drop, slice_index, slice_index_or, slice_set, nat_lt, ℤ, pos, negsuc, ◌+ℤ◌, ◌-ℤ◌, int_le, if◌then◌else◌}
use Rattle.std.specs.Ordering.{int_eq}
use Rattle.std.specs.Int.{int_min, int_max}
use Rattle.std.specs.Fmt.{signed_decimal}
use Rattle.scott_types.specs.declared.states.State.{State}
use Rattle.scott_types.specs.declared.opcodes.Opcode.{Opcode}
use Rattle.scott_types.specs.declared.opcodes.Opcode.TheVariants.{Say, Get, Items, Rooms, Flags, Counters, Talk, Refill, Score, Die, Finish}
use Rattle.scott_types.specs.declared.opcodes.ItemOp.{ItemOp}
use Rattle.scott_types.specs.declared.opcodes.ItemOp.TheVariants.{Drop, Remove, Put, Swap, Take, Join}
use Rattle.scott_types.specs.declared.opcodes.RoomOp.{RoomOp}
use Rattle.scott_types.specs.declared.opcodes.RoomOp.TheVariants.{Go, SwapSaved, SwapRoom}
use Rattle.scott_types.specs.declared.opcodes.FlagOp.{FlagOp}
use Rattle.scott_types.specs.declared.opcodes.FlagOp.TheVariants.{Darken, Lighten, SetFlag, ClearFlag, SetZero, ClearZero}
use Rattle.scott_types.specs.declared.opcodes.CounterOp.{CounterOp}
use Rattle.scott_types.specs.declared.opcodes.CounterOp.TheVariants.{Down, SetCounter, SwapCounter, Add, Subtract}
use Rattle.scott_types.specs.declared.opcodes.TalkOp.{TalkOp}
use Rattle.scott_types.specs.declared.opcodes.TalkOp.TheVariants.{Look, Inventory, Save, ShowCounter, Noun, NounLine, Newline}
use Rattle.scott_types.specs.declared.phrases.Phrase.TheVariants.{TooMuch, Dead, NoSaving, GameOver}
use Rattle.scott_types.specs.declared.phrases.Phrase.TheVariants as phrase
use Rattle.scott_types.specs.Database.{Database}
use Rattle.scott_types.specs.Opcode.{uses}
use Rattle.scott_types.specs.Phrase.{text_of, text_in}
use Rattle.scott_types.specs.Style.{Game}
use Rattle.scott_types.specs.State.{has_item, place_of, is_here, carried_count, carried_place, lamp, dark_flag, out_flag, with_place, with_flag, is_room_of}
use Rattle.adv_io.specs.Steps.{Traced, traced}
use Rattle.scott_rules.specs.Progress.{Progress, goes_on, and_then}
use Rattle.scott_rules.specs.Looking.{looked, inventory, scored, all_stored}

-- ---- items

-- An item goes to a place. The room is described again where the item was here before or is here
-- after. Nothing is done where the item isn't there.
abbrev pub moved : State → ℕ → ℕ → State
moved s item place =
    if has_item s item then record (with_place s item place)
    { redraw = s.redraw || (is_here s item || (place == s.room)) } else s

abbrev pub redrawn : State → State
redrawn s = record s { redraw = true }

-- two items change places, where both are there
abbrev pub swapped : State → ℕ → ℕ → State
swapped s p q =
    if has_item s p && has_item s q then moved (moved s p (place_of s q)) q (place_of s p) else s

-- as many items are carried as can be
abbrev pub is_full : Database → State → Bool
is_full db s = int_eq (pos (carried_count s)) db.header.carry

abbrev pub items_moved : ItemOp → ℕ → ℕ → State → State
items_moved Drop p q s = moved s p s.room
items_moved Remove p q s = moved s p 0
items_moved Put p q s = if has_item s p then redrawn (moved s p (q % 256)) else s
items_moved Swap p q s = swapped s p q
items_moved Take p q s = moved s p carried_place
items_moved Join p q s = moved s p (place_of s q)

abbrev pub refilled : Database → State → State
refilled db s =
    moved (with_flag (record s { light = db.header.light }) out_flag false) lamp carried_place

-- ---- the room, flags and the counter

-- the room is exchanged for a backup room, where that is there
abbrev pub with_backup_room : ℕ → State → State
with_backup_room p s =
    if nat_lt p 16
    then record s
    { room = slice_index s.rooms p; rooms = slice_set s.rooms p s.room; redraw = true }
    else s

abbrev pub room_changed : Database → RoomOp → ℕ → State → State
room_changed db Go p s = if is_room_of db p then record s { room = p; redraw = true } else s
room_changed db SwapSaved p s = record s { room = s.saved; saved = s.room; redraw = true }
room_changed db SwapRoom p s = with_backup_room p s

-- a flag above 31 isn't there, and nothing is set
abbrev pub flag_changed : FlagOp → ℕ → State → State
flag_changed Darken p s = with_flag s dark_flag true
flag_changed Lighten p s = with_flag s dark_flag false
flag_changed SetFlag p s = if nat_lt p 32 then with_flag s p true else s
flag_changed ClearFlag p s = if nat_lt p 32 then with_flag s p false else s
flag_changed SetZero p s = with_flag s 0 true
flag_changed ClearZero p s = with_flag s 0 false

abbrev pub most_count : ℤ
most_count = pos 32767

abbrev pub with_counter : State → ℤ → State
with_counter s n = record s { counter = n }

-- the counter is exchanged for a backup counter, where that is there
abbrev pub with_backup_counter : ℕ → State → State
with_backup_counter p s =
    if nat_lt p 16
    then record s {
      counter = slice_index_or s.counters p (pos 0);
      counters = slice_set s.counters p s.counter;
    } else s

abbrev pub counter_changed : CounterOp → ℕ → State → State
counter_changed Down p s =
    if int_le (pos 0) s.counter then with_counter s (s.counter -ℤ pos 1) else s
counter_changed SetCounter p s = with_counter s (int_min (pos p) most_count)
counter_changed SwapCounter p s = with_backup_counter p s
counter_changed Add p s = with_counter s (int_min (s.counter +ℤ pos p) most_count)
counter_changed Subtract p s = with_counter s (int_max (s.counter -ℤ pos p) (negsuc 0))

-- ---- texts

-- a message and the end of its line; nothing for one that isn't there
abbrev pub said_message : Database → ℕ → List ℕ
said_message db message =
    if nat_lt message (length db.messages) then slice_index_or db.messages message []
    ++ text_of phrase.Newline else []

abbrev pub talk : Game → List ℕ → TalkOp → State → List ℕ
talk game noun Look s = looked game s
talk game noun Inventory s = inventory game s
talk game noun Save s = text_of NoSaving
talk game noun ShowCounter s = signed_decimal s.counter
talk game noun Noun s = noun
talk game noun NounLine s = noun ++ text_of phrase.Newline
talk game noun Newline s = text_of phrase.Newline

-- ---- one opcode

-- the highest room, where the dead wake
abbrev pub last_room : Database → ℕ
last_room db = length db.rooms - 1

abbrev pub dead : Database → State → State
dead db s = record (with_flag s dark_flag false) { room = last_room db }

-- what an opcode changes, with its first and second parameter
abbrev pub changed : Database → Opcode → ℕ → ℕ → State → State
changed db Get p q s = if is_full db s then s else moved s p carried_place
changed db (Items op) p q s = items_moved op p q s
changed db (Rooms op) p q s = room_changed db op p s
changed db (Flags op) p q s = flag_changed op p s
changed db (Counters op) p q s = counter_changed op p s
changed db Refill p q s = refilled db s
changed db Die p q s = dead db s
changed db _ p q s = s

-- what it says, of the state that it leaves, where the hands were full before it or not
abbrev pub opcode_text : Game → List ℕ → Opcode → Bool → State → List ℕ
opcode_text game noun (Say message) full s = said_message game.db message
opcode_text game noun Get full s = if full then text_in game.style TooMuch else []
opcode_text game noun (Talk op) full s = talk game noun op s
opcode_text game noun Score full s = scored game s
opcode_text game noun Die full s = text_in game.style Dead ++ looked game s
opcode_text game noun Finish full s = text_of GameOver
opcode_text game noun _ full s = []

-- the endings: an opcode ended the game, the player fell in the dark, all treasures are stored
abbrev pub by_opcode : ℕ
by_opcode = 1

abbrev pub by_fall : ℕ
by_fall = 2

abbrev pub by_score : ℕ
by_score = 3

-- how it ends the game, if it does
abbrev pub ending : Database → Opcode → State → Option ℕ
ending db Score s = if all_stored db s then Some by_score else None
ending db Finish s = Some by_opcode
ending db _ s = None

-- what an opcode does
abbrev pub opcode_effect : Game → List ℕ → Opcode → ℕ → ℕ → State → Traced ℕ Progress
opcode_effect game noun opcode p q s =
    let after = changed game.db opcode p q s in
    traced (opcode_text game noun opcode (is_full game.db s) after)
    (record { state = after; over = ending game.db opcode after })

-- ---- one opcode after another

-- how many parameters an opcode takes: a get that is refused leaves its own
abbrev pub takes : Database → State → Opcode → ℕ
takes db s Get = if is_full db s then 0 else 1
takes db s opcode = uses opcode

-- an opcode with the next of the parameters, each 0 where none is left
abbrev pub op : Game → List ℕ → Opcode → List ℕ → State → Traced ℕ Progress
op game noun opcode params s =
    opcode_effect game noun opcode (slice_index params 0) (slice_index params 1) s

-- opcodes in order, each with the parameters that those before it left, until the game is over
abbrev pub run_opcodes : Game → List ℕ → List Opcode → List ℕ → State → Traced ℕ Progress
run_opcodes game noun [] params s = traced [] (goes_on s)
run_opcodes game noun (opcode ∷ opcodes) params s =
    and_then (op game noun opcode params s)
    (run_opcodes game noun opcodes (drop (takes game.db s opcode) params))
