use Rattle.std.proofs.Common.{◌≡◌, ◌≤◌, ◌<◌, List, take, length}
use Rattle.std.specs.List.{All}
use Rattle.scott_types.specs.declared.parts.Item.{Item}
use Rattle.scott_rules.specs.Looking.{items_at_place}
use Rattle.scott_light.specs.ItemTexts.{texts_of}
use Rattle.scott_light.proofs.listing.numbers_at.Given as goal

-- the numbers so far are those of the items so far
abbrev pub invariant-loop-i : goal.invariant-loop-i
invariant-loop-i l = record {
  texts : (items : List Item) → length items ≡ length l.places → texts_of items l.numbers.items ≡ items_at_place (take l.i items) (take l.i l.places) l.place;
  there : All (λ number. number < length l.places) l.numbers.items;
  few : length l.numbers.items ≤ l.i;
}
