use Rattle.std.proofs.Common.{◌∙◌, sym, arith, refl}
use Rattle.inform_parser.proofs.Loops.{goes_on_same}
use Rattle.inform_parser.proofs.DirectiveSteps.{local_more, local_last, local_read, local_stops}
use Rattle.inform_parser.proofs.InTurn.{only, same, known, memory, stops, resumed}
use Rattle.inform_grammar.specs.Rules as r
use Rattle.inform_parser.proofs.cursor.Cursor.locals.Goals as goal

pub loop-alloc-preserved : goal.loop-alloc-preserved
loop-alloc-preserved c =
    let l = c.loop-alloc in
    let one = local_read c.in_ok-local.ensures in (
      goes_on_same r.Local l.locals.items c.push.new.self.items c.in_ok-local.local l.self c.name.new.self _
          (local_more l.locals.items l.self (sym c.at_name-in-loop-alloc.ensures ∙ c.loop-alloc-test.true)) c.in_ok-push.ensures.items
          one.gives l.invariant.0,
      omega arith,
    )

pub returns-in_err-locals : goal.returns-in_err-locals
returns-in_err-locals c = memory _ _ _ c.from_residual.result c.from_residual.ensures.1 (omega arith)

pub returns-in_err-local : goal.returns-in_err-local
returns-in_err-local c = resumed c.loop-alloc.invariant.0 c.loop-alloc.invariant.1 (same _ (local_more _ _ (sym c.at_name-in-loop-alloc.ensures ∙ c.loop-alloc-test.true)) (stops _ c.from_residual-in_err-local.result c.from_residual-in_err-local.ensures.1 (only (local_stops c.in_err-local.ensures))))

pub returns-in_err-push : goal.returns-in_err-push
returns-in_err-push c = memory _ _ _ c.from_residual-in_err-push.result c.from_residual-in_err-push.ensures.1 (omega arith)

pub returns : goal.returns
returns c = resumed c.loop-alloc.invariant.0 c.loop-alloc.invariant.1 (known (local_last _ _ (sym c.at_name-in-loop-alloc.ensures ∙ c.loop-alloc-test.false)) refl)
