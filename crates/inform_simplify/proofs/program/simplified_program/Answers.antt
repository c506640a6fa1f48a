use Rattle.std.proofs.Common.{arith}
use Rattle.inform_simplify.proofs.Kept.{directive_goes_on, directives_end}
use Rattle.inform_simplify.proofs.program.simplified_program.Goals as goal

pub loop-directive-preserved : goal.loop-directive-preserved
loop-directive-preserved c = directive_goes_on _ _ _ _ _ _ _ _ c.in-Some.ensures.steps.0 c.in_ok-push.ensures.items c.in_ok-simplified_directive.ensures c.loop-directive.invariant

pub returns : goal.returns
returns c = directives_end _ _ _ _ (omega (arith, c.loop-directive.directive-iterator.rest.ok.0, c.in-None.ensures.steps.0)) c.loop-directive.invariant
