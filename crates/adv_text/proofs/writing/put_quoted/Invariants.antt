use Rattle.std.proofs.Common.{◌≡◌, ◌+◌, ◌-◌, ◌*◌, ◌≤◌, ◌++◌, ◌∷◌, take, length, vec_len, vec_capacity}
use Rattle.std.specs.List.{flat_map}
use Rattle.adv_text.specs.Writing.{byte_text}
use Rattle.adv_text.proofs.writing.put_quoted.Given as goal

abbrev pub invariant-loop-byte : goal.invariant-loop-byte
invariant-loop-byte l = record {
  written : l.out.items ≡ l.fn.out.items ++ 34 ∷ flat_map byte_text (take l.byte-index l.text);
  room : vec_len l.out + 2 * (length l.text - l.byte-index) + 1 ≤ vec_capacity l.out;
}
