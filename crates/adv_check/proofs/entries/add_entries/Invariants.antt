use Rattle.std.proofs.Common.{◌≡◌, ◌++◌, take}
use Rattle.adv_check.specs.Sites.{each_from, warnings_of}
use Rattle.adv_check.proofs.entries.add_entries.Given as goal

-- the warnings so far are those of the entries so far
abbrev pub invariant-loop-index : goal.invariant-loop-index
invariant-loop-index g l = l.found.items ≡ l.fn.found.items ++ warnings_of (each_from 0 (g.E.Warned.sites l.db) (take l.index l.entries))
