use Rattle.std.proofs.Common.{◌≡◌, Some, rules}
use Rattle.std.specs.Prelude.{slice_get}
use Rattle.inform_tree.specs.Programs as d
use Rattle.inform_tree.specs.Programs.{routine_of}
use Rattle.inform_names.specs.Acceptance.{main}
use Rattle.inform_names.specs.Laws.{IsMeaningOf}
use Rattle.inform_names.specs.Views.{directives_of, names_of}
use Rattle.inform_names.proofs.Faultless.{bodies_are_fine, main_has_no_locals, main_means}
use Rattle.inform_names.proofs.names.Names.main.Goals as goal

pub returns-clause-meaning : goal.returns-clause-meaning
returns-clause-meaning c =
    let known : names_of c.args.self.now.accepted.now main ≡ Some c.in-Some.meaning =
    search rules in
    let found : IsMeaningOf c.args.self.now.accepted.now.width
    (directives_of c.args.self.now.accepted.now) main c.in-Some.meaning
    (d.Routine (routine_of c.in-Routine.routine)) = search rules in
    main_means c.args.self.now.accepted.now.width
    (directives_of c.args.self.now.accepted.now) c.in-Some.meaning
    (routine_of c.in-Routine.routine) c.args.self.now.accepted.now.accepted known found

pub returns-clause-locals : goal.returns-clause-locals
returns-clause-locals c =
    let known : names_of c.args.self.now.accepted.now main ≡ Some c.in-Some.meaning =
    search rules in
    let here : slice_get (directives_of c.args.self.now.accepted.now) c.in-Some.meaning.at
    ≡ Some (d.Routine (routine_of c.in-Routine.routine)) = search rules in
    main_has_no_locals c.args.self.now.accepted.now.width
    (directives_of c.args.self.now.accepted.now) c.in-Some.meaning
    (routine_of c.in-Routine.routine) c.args.self.now.accepted.now.accepted known here

pub returns-clause-fine : goal.returns-clause-fine
returns-clause-fine c =
    let here : slice_get (directives_of c.args.self.now.accepted.now) c.in-Some.meaning.at
    ≡ Some (d.Routine (routine_of c.in-Routine.routine)) = search rules in
    bodies_are_fine c.args.self.now.accepted.now.width
    (directives_of c.args.self.now.accepted.now) c.in-Some.meaning.at
    (routine_of c.in-Routine.routine) c.args.self.now.accepted.now.accepted here
