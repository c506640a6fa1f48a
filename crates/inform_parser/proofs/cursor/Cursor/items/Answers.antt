use Rattle.std.proofs.Common.{◌∙◌, sym, map, arith, refl}
use Rattle.inform_tree.specs.Statements.{print_item_of}
use Rattle.inform_parser.proofs.Loops.{goes_on}
use Rattle.inform_parser.proofs.StatementSteps.{item_more, further_item_read, item_last}
use Rattle.inform_parser.proofs.InTurn.{only, same, known, memory, stops, resumed}
use Rattle.inform_grammar.specs.Rules as r
use Rattle.inform_parser.proofs.cursor.Cursor.items.Goals as goal

pub loop-alloc-preserved : goal.loop-alloc-preserved
loop-alloc-preserved c =
    let l = c.loop-alloc in
    let one = further_item_read (sym c.at.ensures ∙ c.loop-alloc-test.true) c.pass.ensures c.in_ok-item.ensures in (
      goes_on r.FurtherItem print_item_of l.items.items c.push-in-loop-alloc.new.self.items c.in_ok-item.item l.self c.item.new.self _
          (item_more (map print_item_of l.items.items) l.self (sym c.at.ensures ∙ c.loop-alloc-test.true)) c.in_ok-push-2.ensures.items
          one.gives l.invariant.0,
      omega arith,
    )

pub returns-in_err-items : goal.returns-in_err-items
returns-in_err-items c = memory _ _ _ c.from_residual.result c.from_residual.ensures.1 (omega arith)

pub returns-in_err-push : goal.returns-in_err-push
returns-in_err-push c = memory _ _ _ c.from_residual-in_err-push.result c.from_residual-in_err-push.ensures.1 (omega arith)

pub returns-in_err-item : goal.returns-in_err-item
returns-in_err-item c = resumed c.loop-alloc.invariant.0 c.loop-alloc.invariant.1 (same _ (item_more _ _ (sym c.at.ensures ∙ c.loop-alloc-test.true)) (stops _ c.from_residual-in_err-item.result c.from_residual-in_err-item.ensures.1 (only (further_item_read (sym c.at.ensures ∙ c.loop-alloc-test.true) c.pass.ensures c.in_err-item.ensures))))

pub returns-in_err-push-2 : goal.returns-in_err-push-2
returns-in_err-push-2 c = memory _ _ _ c.from_residual-in_err-push-2.result c.from_residual-in_err-push-2.ensures.1 (omega arith)

pub returns : goal.returns
returns c = resumed c.loop-alloc.invariant.0 c.loop-alloc.invariant.1 (known (item_last _ _ (sym c.at.ensures ∙ c.loop-alloc-test.false)) refl)
