-- The items of a game that is made.
use Rattle.std.specs.Prelude.{ℕ, ◌+◌, ◌*◌, ◌%◌, ◌==◌, List, [], ◌++◌, codes, decimal, if◌then◌else◌}
use Rattle.scott_types.specs.declared.parts.Item.{Item}
use Rattle.scott_types.specs.State.{carried_place, lamp}
use Rattle.rand_pcg.specs.Lcg.{Lcg}
use Rattle.adv_gen.specs.Picks.{pick, picked}
use Rattle.adv_gen.specs.Vocabulary.{thing_noun}

-- every eighth item is a treasure
abbrev pub treasure_mark : ℕ → List ℕ
treasure_mark k = if k % 8 == 7 then codes "*" else []

unfoldable pub item_text : ℕ → ℕ → List ℕ
item_text size k =
    treasure_mark k ++ codes "thing " ++ decimal k ++ codes "/" ++ thing_noun size k ++ codes "/"

-- the lamp is carried; any other item is in any room, or out of the game
unfoldable pub item_place : ℕ → ℕ → Lcg → ℕ
item_place size k generator = if k == lamp then carried_place else pick generator 0 (size + 1)

abbrev pub item : ℕ → ℕ → Lcg → Item
item size k generator = record { text = item_text size k; place = item_place size k generator }

abbrev pub item_picks : ℕ → ℕ
item_picks k = if k == lamp then 0 else 1

abbrev pub items : ℕ → Lcg → List Item
items size generator = picked item_picks (item size) (2 * size) generator
