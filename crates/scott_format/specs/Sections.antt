-- The sections of a database's text, in the order of the file.
use Rattle.std.specs.Prelude.{ℕ, ◌-◌, ◌%◌, ◌&&◌, List, [], ◌∷◌, ℤ, pos, negsuc, int_le, unsigned_abs, unwrap_or}
use Rattle.scott_types.specs.declared.parts.Action.{Action}
use Rattle.scott_types.specs.declared.parts.Word.{Word}
use Rattle.scott_types.specs.declared.parts.Room.{Room}
use Rattle.scott_types.specs.declared.parts.Item.{Item}
use Rattle.scott_types.specs.declared.parts.Trailer.{Trailer}
use Rattle.scott_format.specs.declared.faults.Field.{Field}
use Rattle.scott_format.specs.declared.faults.Field.TheVariants.{HighestItem, HighestAction, HighestWord, HighestRoom, WordLength, LightTime, HighestMessage}
use Rattle.scott_format.specs.declared.header.Sizes.{Sizes}
use Rattle.scott_format.specs.declared.header.PlayNumbers.{PlayNumbers}
use Rattle.scott_format.specs.declared.header.Closing.{Closing}
use Rattle.scott_format.specs.declared.bodies.Head.{Head}
use Rattle.scott_format.specs.Faults.{Fault, limit, no_start, negative_action}
use Rattle.scott_format.specs.Plan.{Plan, done, check, number, quoted, perhaps, ◌>>=◌}

-- ---- numbers with limits

abbrev pub any_number : Plan ℤ
any_number = number (λ z. done z)

-- a number of least..most, or else a fault
abbrev pub natural : ℕ → ℕ → (ℤ → Fault) → Plan ℕ
natural least most fault =
    number (λ z. check (int_le (pos least) z && int_le z (pos most)) (fault z)
    (done (unsigned_abs z)))

abbrev pub limited : Field → ℕ → ℕ → Plan ℕ
limited field least most = natural least most (limit field)

-- ---- the header

-- the first five numbers: one without a use, and the highest item, action, word and room
unfoldable pub sizes : Plan Sizes
sizes = do
  unused ← any_number
  items ← limited HighestItem 0 254
  actions ← limited HighestAction 0 4999
  words ← limited HighestWord 0 999
  rooms ← limited HighestRoom 0 254
  done (record { unused = unused; items = items; actions = actions; words = words; rooms = rooms })

-- -1 or more
abbrev pub light_time : Plan ℤ
light_time = number (λ z. check (int_le (negsuc 0) z) (limit LightTime z) (done z))

-- the next five: most carried, start room, treasures, word length, light time
unfoldable pub play_numbers : ℕ → Plan PlayNumbers
play_numbers rooms = do
  carry ← any_number
  start ← natural 0 rooms no_start
  treasures ← any_number
  length ← limited WordLength 1 20
  light ← light_time
  done (record {
    carry = carry;
    start = start;
    treasures = treasures;
    length = length;
    light = light;
  })

-- the last two: the highest message, and the room for treasures
unfoldable pub closing : Plan Closing
closing = do
  messages ← limited HighestMessage 0 999
  home ← any_number
  done (record { messages = messages; home = home })

-- the header whole
unfoldable pub head : Plan Head
head = do
  counts ← sizes
  numbers ← play_numbers counts.rooms
  end ← closing
  done (record { sizes = counts; numbers = numbers; closing = end })

-- ---- entries of the lists

-- a number of action k
abbrev pub action_number : ℕ → Plan ℕ
action_number k = number (λ z. check (int_le (pos 0) z) (negative_action k) (done (unsigned_abs z)))

-- the vocabulary, five conditions and two pairs of opcodes
unfoldable pub action : ℕ → Plan Action
action k = do
  vocab ← action_number k
  a ← action_number k
  b ← action_number k
  c ← action_number k
  d ← action_number k
  e ← action_number k
  first ← action_number k
  second ← action_number k
  done (record { vocab = vocab; conds = a ∷ b ∷ c ∷ d ∷ e ∷ []; pairs = first ∷ second ∷ [] })

abbrev pub string : Plan (List ℕ)
string = quoted (λ t. done t)

-- a verb and a noun
unfoldable pub word : Plan Word
word = do
  verb ← string
  noun ← string
  done (record { verb = verb; noun = noun })

-- the exits north, south, east, west, up and down, and a text
unfoldable pub room : Plan Room
room = do
  north ← any_number
  south ← any_number
  east ← any_number
  west ← any_number
  up ← any_number
  down ← any_number
  t ← string
  done (record { exits = north ∷ south ∷ east ∷ west ∷ up ∷ down ∷ []; text = t })

-- the low 8 bits
abbrev pub low_byte : ℤ → ℕ
low_byte (pos n) = n % 256
low_byte (negsuc n) = 255 - n % 256

-- a text, and the place where the item starts
unfoldable pub item : Plan Item
item = do
  t ← string
  place ← any_number
  done (record { text = t; place = low_byte place })

-- ---- the trailer

-- a number, or 0 where none stands
abbrev pub third_number : Plan ℤ
third_number = perhaps (λ o. done (unwrap_or o (pos 0)))

unfoldable pub trailer : Plan Trailer
trailer = do
  version ← any_number
  adventure ← any_number
  third ← third_number
  done (record { version = version; adventure = adventure; third = third })
