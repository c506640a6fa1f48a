-- The game of a number: its database, and the lines of a play of it.
use Rattle.std.specs.Prelude.{ℕ, ◌+◌, ◌*◌, List, [], pos, replicate, count_by}
use Rattle.scott_types.specs.declared.parts.Header.{Header}
use Rattle.scott_types.specs.declared.parts.Item.{Item}
use Rattle.scott_types.specs.declared.parts.Trailer.{Trailer}
use Rattle.scott_types.specs.Database.{Database}
use Rattle.scott_types.specs.ItemText.{is_treasure}
use Rattle.rand_pcg.specs.Lcg.{Lcg}
use Rattle.adv_gen.specs.Picks.{generator_of, after, picks_before}
use Rattle.adv_gen.specs.Vocabulary.{words}
use Rattle.adv_gen.specs.Rooms.{room_picks, rooms, messages}
use Rattle.adv_gen.specs.Items.{item_picks, items}
use Rattle.adv_gen.specs.Actions.{action_picks, actions}
use Rattle.adv_gen.specs.TypedLines.{typed_lines}

-- ---- where the picks of each list begin

abbrev pub at_rooms : ℕ → Lcg
at_rooms size = generator_of size

abbrev pub at_items : ℕ → Lcg
at_items size = after (picks_before room_picks (size + 1)) (at_rooms size)

abbrev pub at_actions : ℕ → Lcg
at_actions size = after (picks_before item_picks (2 * size)) (at_items size)

abbrev pub at_lines : ℕ → Lcg
at_lines size = after (picks_before action_picks (5 * size + 5)) (at_actions size)

-- ---- the database

abbrev pub treasures_in : List Item → ℕ
treasures_in items = count_by (λ item. is_treasure item.text) items

-- six items can be carried; a play starts in room 1, where treasures are stored; four bytes of a
-- word count; the light lasts 125 turns
abbrev pub header : List Item → Header
header items = record {
  unused = pos 0;
  carry = pos 6;
  start = 1;
  treasures = pos (treasures_in items);
  length = 4;
  light = pos 125;
  home = pos 1;
}

abbrev pub trailer : ℕ → Trailer
trailer size = record { version = pos 416; adventure = pos size; third = pos 0 }

-- the comment of an action is empty
abbrev pub database : ℕ → Database
database size = record {
  header = header (items size (at_items size));
  actions = actions size (at_actions size);
  words = words size;
  rooms = rooms size (at_rooms size);
  messages = messages size;
  items = items size (at_items size);
  comments = replicate (5 * size + 5) [];
  trailer = trailer size;
}

-- ---- the lines

abbrev pub lines : ℕ → List (List ℕ)
lines size = typed_lines size (at_lines size)
