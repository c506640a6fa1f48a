use Rattle.std.proofs.Common.{◌≡◌, ◌+◌, ◌∷◌, length, take}
use Rattle.adv_hall.proofs.halls.say_number.Given as goal

-- after the bracket stand the digits so far
abbrev pub invariant-loop-byte : goal.invariant-loop-byte
invariant-loop-byte g l = record {
  kept : l.text.items ≡ 91 ∷ take l.byte-index l.byte-items;
  length_is : length l.text.items ≡ l.byte-index + 1;
}
