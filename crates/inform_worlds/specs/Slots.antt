-- What a slot of the names of a program tells.
use Rattle.std.specs.Prelude.{◌≡◌, ◌≢◌, ℕ, List, Some}
use Rattle.inform_tree.specs.Names.{name_number}
use Rattle.inform_names.specs.Meanings.{Known}
use Rattle.inform_worlds.specs.declared.slots.Slot.{Slot}

-- each name of its number means what stands in it; one of the number 0 is empty
abbrev pub Tells : Known → Slot → Type 0
Tells known slot =
    (name : List ℕ) → name_number name ≡ slot.number → slot.number ≢ 0
    → known name ≡ Some slot.meaning
