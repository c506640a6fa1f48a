use Rattle.std.proofs.Common.{◌≡◌, map, take, length}
use Rattle.scott_types.specs.Database.{place_of_item}
use Rattle.scott_types.proofs.states.start_places.Given as goal

-- the places so far are those of the items so far
abbrev pub invariant-loop-item : goal.invariant-loop-item
invariant-loop-item l = record {
  places : l.places.items ≡ map place_of_item (take l.item-index l.items);
  length_is : length l.places.items ≡ l.item-index;
}
