use Rattle.std.proofs.Common.{◌∙◌, sym, arith, refl}
use Rattle.inform_parser.proofs.Loops.{goes_on_same}
use Rattle.inform_parser.proofs.DirectiveSteps.{entry_more, entry_last}
use Rattle.inform_parser.proofs.InTurn.{only, same, known, memory, stops, resumed}
use Rattle.inform_grammar.specs.Rules as r
use Rattle.inform_parser.proofs.cursor.Cursor.entries.Goals as goal

pub loop-alloc-preserved : goal.loop-alloc-preserved
loop-alloc-preserved c =
    let l = c.loop-alloc in (
      goes_on_same r.Entry l.entries.items c.push-in-loop-alloc.new.self.items c.in_ok-entry.entry l.self c.entry.new.self _
          (entry_more l.entries.items l.self (sym c.at_entry.ensures ∙ c.loop-alloc-test.true)) c.in_ok-push-2.ensures.items
          c.in_ok-entry.ensures.gives l.invariant.0,
      omega arith,
    )

pub returns-in_err-push : goal.returns-in_err-push
returns-in_err-push c = memory _ _ _ c.from_residual.result c.from_residual.ensures.1 (omega arith)

pub returns-in_err-entry : goal.returns-in_err-entry
returns-in_err-entry c = resumed c.loop-alloc.invariant.0 c.loop-alloc.invariant.1 (same _ (entry_more _ _ (sym c.at_entry.ensures ∙ c.loop-alloc-test.true)) (stops _ c.from_residual-in_err-entry.result c.from_residual-in_err-entry.ensures.1 (only c.in_err-entry.ensures)))

pub returns-in_err-push-2 : goal.returns-in_err-push-2
returns-in_err-push-2 c = memory _ _ _ c.from_residual-in_err-push-2.result c.from_residual-in_err-push-2.ensures.1 (omega arith)

pub returns : goal.returns
returns c = resumed c.loop-alloc.invariant.0 c.loop-alloc.invariant.1 (known (entry_last _ _ (sym c.at_entry.ensures ∙ c.loop-alloc-test.false)) refl)
