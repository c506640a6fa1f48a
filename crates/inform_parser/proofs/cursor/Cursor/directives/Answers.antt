use Rattle.std.proofs.Common.{◌∙◌, sym, map, arith, refl}
use Rattle.inform_tree.specs.Programs.{directive_of}
use Rattle.inform_parser.proofs.Loops.{goes_on}
use Rattle.inform_parser.proofs.DirectiveSteps.{directive_more, directive_last}
use Rattle.inform_parser.proofs.InTurn.{only, same, known, memory, stops, resumed}
use Rattle.inform_grammar.specs.Rules as r
use Rattle.inform_parser.proofs.cursor.Cursor.directives.Goals as goal

pub loop-alloc-preserved : goal.loop-alloc-preserved
loop-alloc-preserved c =
    let l = c.loop-alloc in rw c.give_back.ensures (
      goes_on r.Directive directive_of l.directives.items c.push.new.self.items c.in_ok-directive.directive l.self c.directive.new.self _
          (directive_more (map directive_of l.directives.items) l.self (sym c.at_directive.ensures ∙ c.loop-alloc-test.true)) c.in_ok-push.ensures.items
          c.in_ok-directive.ensures.gives l.invariant.0,
      omega arith,
    )

pub returns-in_err-directive : goal.returns-in_err-directive
returns-in_err-directive c = resumed c.loop-alloc.invariant.0 c.loop-alloc.invariant.1 (same _ (directive_more _ _ (sym c.at_directive.ensures ∙ c.loop-alloc-test.true)) (stops _ c.from_residual.result c.from_residual.ensures.1 (only c.in_err-directive.ensures)))

pub returns-in_err-push : goal.returns-in_err-push
returns-in_err-push c = memory _ _ _ c.from_residual-in_err-push.result c.from_residual-in_err-push.ensures.1 (omega arith)

pub returns : goal.returns
returns c = resumed c.loop-alloc.invariant.0 c.loop-alloc.invariant.1 (known (directive_last _ _ (sym c.at_directive.ensures ∙ c.loop-alloc-test.false)) refl)
