use Rattle.std.proofs.Common.{◌≡◌, ◌+◌, ◌≤◌, [], drop, length}
use Rattle.std.specs.Prelude.{IsTrue}
use Rattle.std.specs.List.{list_all}
use Rattle.source_reader.specs.WellFormed.{all_of}
use Rattle.adv_compiler.specs.Index.{known_in}
use Rattle.adv_compiler.specs.Lists.{each}
use Rattle.adv_compiler.proofs.lists.each.Given as goal

-- the parts so far and those of the entries from here on are all
abbrev pub invariant-loop-entry : goal.invariant-loop-entry
invariant-loop-entry g l = record {
  number : l.number ≡ l.entry-index;
  size : length l.parts.items ≡ l.entry-index;
  few : l.entry-index ≤ l.highest + 1;
  ready : IsTrue (all_of g.E.Entry.ready (drop l.entry-index l.entries));
  kept : IsTrue (list_all g.E.Entry.kept l.parts.items);
  meant : each (g.E.Entry.meaning (known_in l.tables)) l.highest l.parts.items (drop l.entry-index l.entries)
      ≡ each (g.E.Entry.meaning (known_in l.tables)) l.highest [] l.entries;
}
