use Rattle.std.proofs.Common.{subst, sym}
use Rattle.inform_tree.specs.Programs.{directive_of}
use Rattle.inform_simplify.specs.Simplifying.{DirectiveShortens, constant, global, array}
use Rattle.inform_simplify.proofs.program.simplified_directive.Goals as goal

pub returns-in-Constant : goal.returns-in-Constant
returns-in-Constant c = subst (λ x. DirectiveShortens c.args.width (directive_of x) (directive_of x)) (sym c.in-Constant.is) (constant _ _)

pub returns-in-Global : goal.returns-in-Global
returns-in-Global c = subst (λ x. DirectiveShortens c.args.width (directive_of x) (directive_of x)) (sym c.in-Global.is) (global _ _)

pub returns-in-Array : goal.returns-in-Array
returns-in-Array c = subst (λ x. DirectiveShortens c.args.width (directive_of x) (directive_of x)) (sym c.in-Array.is) (array _ _ _)
