use Rattle.std.proofs.Common.{subst}
use Rattle.inform_tree.specs.Statements.{statements_of}
use Rattle.inform_tree.specs.Programs.{routine_of}
use Rattle.inform_simplify.specs.Simplifying.{Shortens, routine}
use Rattle.inform_simplify.proofs.program.simplified_routine.Goals as goal

pub returns : goal.returns
returns c = routine (routine_of c.args.old) (statements_of c.in_ok-body.body.items) (subst (λ v. Shortens c.args.width (statements_of v.items) (statements_of c.in_ok-body.body.items)) c.replace.ensures.value c.in_ok-body.ensures)
