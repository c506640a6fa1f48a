-- The numbers of the opcodes in the file, and what their parameters name.
use Rattle.std.specs.Prelude.{ℕ, ◌+◌, ◌-◌, ◌==◌, nat_lt, List, [], ◌∷◌, length, slice_index_or, if◌then◌else◌}
use Rattle.scott_types.specs.declared.opcodes.Opcode.{Opcode}
use Rattle.scott_types.specs.declared.opcodes.Opcode.TheVariants.{Nothing, Say, Get, Items, Rooms, Flags, Counters, Talk, Refill, Score, Die, Finish, Screen, Picture, More}
use Rattle.scott_types.specs.declared.opcodes.ItemOp.{ItemOp}
use Rattle.scott_types.specs.declared.opcodes.ItemOp.TheVariants.{Drop, Remove, Put, Swap, Take, Join}
use Rattle.scott_types.specs.declared.opcodes.RoomOp.{RoomOp}
use Rattle.scott_types.specs.declared.opcodes.RoomOp.TheVariants.{Go, SwapSaved, SwapRoom}
use Rattle.scott_types.specs.declared.opcodes.FlagOp.{FlagOp}
use Rattle.scott_types.specs.declared.opcodes.FlagOp.TheVariants.{Darken, Lighten, SetFlag, ClearFlag, SetZero, ClearZero}
use Rattle.scott_types.specs.declared.opcodes.CounterOp.{CounterOp}
use Rattle.scott_types.specs.declared.opcodes.CounterOp.TheVariants.{Down, SetCounter, SwapCounter, Add, Subtract}
use Rattle.scott_types.specs.declared.opcodes.TalkOp.{TalkOp}
use Rattle.scott_types.specs.declared.opcodes.TalkOp.TheVariants.{Look, Inventory, Save, ShowCounter, Noun, NounLine, Newline}
use Rattle.scott_types.specs.declared.parameters.Parameter.{Parameter}
use Rattle.scott_types.specs.declared.parameters.Parameter.TheVariants.{Item, Room, Flag, Backup, Place, Number}

-- the opcodes of the numbers from 52 to 89
abbrev pub named : List Opcode
named =
    Get ∷ Items Drop ∷ Rooms Go ∷ Items Remove ∷ Flags Darken ∷ Flags Lighten ∷ Flags SetFlag
    ∷ Items Remove
    ∷ Flags ClearFlag ∷ Die ∷ Items Put ∷ Finish ∷ Talk Look ∷ Score ∷ Talk Inventory
    ∷ Flags SetZero ∷ Flags ClearZero
    ∷ Refill ∷ Screen ∷ Talk Save ∷ Items Swap ∷ More ∷ Items Take ∷ Items Join ∷ Talk Look
    ∷ Counters Down
    ∷ Talk ShowCounter ∷ Counters SetCounter ∷ Rooms SwapSaved ∷ Counters SwapCounter ∷ Counters Add
    ∷ Counters Subtract
    ∷ Talk Noun ∷ Talk NounLine ∷ Talk Newline ∷ Rooms SwapRoom ∷ Screen ∷ Picture ∷ []

-- the opcode of a number: 1 to 51, and those from 102 on less 50, say the message of that number
abbrev pub opcode_of : ℕ → Opcode
opcode_of n = if n == 0 then Nothing else if nat_lt n 52 then Say n else
    if nat_lt n 90 then slice_index_or named (n - 52) Nothing else if nat_lt n 102 then Nothing
    else Say (n - 50)

-- ---- the least number that means an opcode, for those that a number means

abbrev pub say_number : ℕ → ℕ
say_number message = if nat_lt message 52 then message else message + 50

abbrev pub item_number : ItemOp → ℕ
item_number Drop = 53
item_number Remove = 55
item_number Put = 62
item_number Swap = 72
item_number Take = 74
item_number Join = 75

abbrev pub room_number : RoomOp → ℕ
room_number Go = 54
room_number SwapSaved = 80
room_number SwapRoom = 87

abbrev pub flag_number : FlagOp → ℕ
flag_number Darken = 56
flag_number Lighten = 57
flag_number SetFlag = 58
flag_number ClearFlag = 60
flag_number SetZero = 67
flag_number ClearZero = 68

abbrev pub counter_number : CounterOp → ℕ
counter_number Down = 77
counter_number SetCounter = 79
counter_number SwapCounter = 81
counter_number Add = 82
counter_number Subtract = 83

abbrev pub talk_number : TalkOp → ℕ
talk_number Look = 64
talk_number Inventory = 66
talk_number Save = 71
talk_number ShowCounter = 78
talk_number Noun = 84
talk_number NounLine = 85
talk_number Newline = 86

abbrev pub number_of : Opcode → ℕ
number_of Nothing = 0
number_of (Say message) = say_number message
number_of Get = 52
number_of (Items op) = item_number op
number_of (Rooms op) = room_number op
number_of (Flags op) = flag_number op
number_of (Counters op) = counter_number op
number_of (Talk op) = talk_number op
number_of Refill = 69
number_of Score = 65
number_of Die = 61
number_of Finish = 63
number_of Screen = 70
number_of Picture = 89
number_of More = 73

-- ---- what the parameters name

abbrev pub item_parameters : ItemOp → List Parameter
item_parameters Put = Item ∷ Place ∷ []
item_parameters Swap = Item ∷ Item ∷ []
item_parameters Join = Item ∷ Item ∷ []
item_parameters _ = Item ∷ []

abbrev pub room_parameters : RoomOp → List Parameter
room_parameters Go = Room ∷ []
room_parameters SwapSaved = []
room_parameters SwapRoom = Backup ∷ []

abbrev pub flag_parameters : FlagOp → List Parameter
flag_parameters SetFlag = Flag ∷ []
flag_parameters ClearFlag = Flag ∷ []
flag_parameters _ = []

abbrev pub counter_parameters : CounterOp → List Parameter
counter_parameters Down = []
counter_parameters SwapCounter = Backup ∷ []
counter_parameters _ = Number ∷ []

-- what an opcode's parameters name, in their order
abbrev pub parameters_of : Opcode → List Parameter
parameters_of Get = Item ∷ []
parameters_of (Items op) = item_parameters op
parameters_of (Rooms op) = room_parameters op
parameters_of (Flags op) = flag_parameters op
parameters_of (Counters op) = counter_parameters op
parameters_of Picture = Number ∷ []
parameters_of _ = []

-- how many parameters an opcode takes
abbrev pub uses : Opcode → ℕ
uses opcode = length (parameters_of opcode)
