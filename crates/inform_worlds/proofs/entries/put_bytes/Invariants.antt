use Rattle.std.proofs.Common.{◌≡◌, ◌+◌, ◌++◌, length, take, drop, map, pos}
use Rattle.inform_worlds.proofs.entries.put_bytes.Given as goal

-- so many bytes were put, and all other entries are as they were
abbrev pub invariant-loop-i : goal.invariant-loop-i
invariant-loop-i l = record {
  size : length l.entries.items ≡ length l.fn.entries.items;
  done : take (l.from + l.i) l.entries.items ≡ take l.from l.fn.entries.items ++ map pos (take l.i l.bytes);
  left : drop (l.from + l.i) l.entries.items ≡ drop (l.from + l.i) l.fn.entries.items;
}
