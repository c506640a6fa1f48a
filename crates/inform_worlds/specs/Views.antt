-- The world that a `World` of the program is.
use Rattle.std.specs.Prelude.{map}
use Rattle.inform_names.specs.Views.{names_of}
use Rattle.inform_meaning.specs.Worlds as w
use Rattle.inform_worlds.specs.declared.worlds.World.{World}
use Rattle.inform_worlds.specs.Scopes.{scope_of}
use Rattle.inform_worlds.specs.Worlds.{program_of, globals_of, arrays_of}

abbrev pub world_of : World → w.World
world_of x = record {
  globals = globals_of (names_of x.names.accepted.now) x.globals.items;
  arrays =
      arrays_of (names_of x.names.accepted.now) (map (λ entries. entries.items) x.arrays.items);
  scope = scope_of x.scope;
}

abbrev pub program_seen : World → w.Program
program_seen x = program_of x.names.accepted.now
