use Rattle.std.proofs.Common.{◌≡◌, Some, rules}
use Rattle.std.specs.Prelude.{slice_get}
use Rattle.inform_tree.specs.Programs as d
use Rattle.inform_tree.specs.Programs.{routine_of}
use Rattle.inform_names.specs.Views.{directives_of}
use Rattle.inform_names.proofs.Faultless.{bodies_are_fine}
use Rattle.inform_names.proofs.names.Names.routine.Goals as goal

pub returns-clause-fine : goal.returns-clause-fine
returns-clause-fine c =
    let here : slice_get (directives_of c.args.self.now.accepted.now) c.in-Some.meaning.at
    ≡ Some (d.Routine (routine_of c.in-Routine.routine)) =
    search rules in
    bodies_are_fine c.args.self.now.accepted.now.width
    (directives_of c.args.self.now.accepted.now) c.in-Some.meaning.at
    (routine_of c.in-Routine.routine) c.args.self.now.accepted.now.accepted here
