use Rattle.std.proofs.Common.{◌∙◌, ap, map}
use Rattle.inform_tree.specs.Programs.{routine_of}
use Rattle.inform_names.specs.Views.{names_of, directives_of}
use Rattle.inform_worlds.specs.Scopes.{scope_of}
use Rattle.inform_worlds.specs.Worlds.{globals_of, arrays_of, first_globals, first_arrays}
use Rattle.inform_worlds.proofs.Opening.{opened_world}
use Rattle.inform_worlds.proofs.worlds.World.open.Goals as goal

pub returns-clause-world : goal.returns-clause-world
returns-clause-world c =
    let a = c.args.accepted.now in
    let same = c.in_ok-names.ensures in
    ap (λ x. record {
      globals = globals_of (names_of x) c.in_ok-globals.globals.items;
      arrays = arrays_of (names_of x) (map (λ entries. entries.items) c.in_ok-arrays.arrays.items);
      scope = scope_of c.bare-scope.result;
    }) same
    ∙ opened_world c.meanings_are_of_directives.ensures a.width (directives_of a) c.in_ok-globals.globals.items
    (map (λ entries. entries.items) c.in_ok-arrays.arrays.items) (scope_of c.bare-scope.result) c.main.result.0 _ (routine_of c.main.result.1.now)
    (c.in_ok-globals.ensures ∙ ap first_globals same) (c.in_ok-arrays.ensures ∙ ap first_arrays same) c.bare-scope.ensures
    (rw same at c.main.ensures.meaning) (rw same at c.main.ensures.directive)
