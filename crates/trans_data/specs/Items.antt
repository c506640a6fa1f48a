-- The class of the word of an item.
use Rattle.std.specs.Prelude.{ℕ}
use Rattle.scott_types.specs.declared.parts.Item.{Item}
use Rattle.scott_types.specs.Database.{Database}
use Rattle.trans_specs.specs.Tables.{item_word, class_of}

unfoldable pub class_of_item : Database → Item → ℕ
class_of_item db item = class_of db (item_word item)
