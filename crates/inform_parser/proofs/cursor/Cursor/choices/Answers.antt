use Rattle.std.proofs.Common.{◌∙◌, sym, arith, refl}
use Rattle.inform_parser.proofs.Loops.{goes_on_same}
use Rattle.inform_parser.proofs.ChoiceSteps.{choice_more, further_choice_read, choice_last}
use Rattle.inform_parser.proofs.InTurn.{only, same, known, memory, stops, resumed}
use Rattle.inform_grammar.specs.Rules as r
use Rattle.inform_parser.proofs.cursor.Cursor.choices.Goals as goal

pub loop-alloc-preserved : goal.loop-alloc-preserved
loop-alloc-preserved c =
    let l = c.loop-alloc in
    let one = further_choice_read (sym c.at.ensures ∙ c.loop-alloc-test.true) c.pass.ensures c.in_ok-choice.ensures in (
      goes_on_same r.FurtherChoice l.choices.items c.push-in-loop-alloc.new.self.items c.in_ok-choice.choice l.self c.choice.new.self _
          (choice_more l.choices.items l.self (sym c.at.ensures ∙ c.loop-alloc-test.true)) c.in_ok-push-2.ensures.items
          one.gives l.invariant.0,
      omega arith,
    )

pub returns-in_err-choices : goal.returns-in_err-choices
returns-in_err-choices c = memory _ _ _ c.from_residual.result c.from_residual.ensures.1 (omega arith)

pub returns-in_err-push : goal.returns-in_err-push
returns-in_err-push c = memory _ _ _ c.from_residual-in_err-push.result c.from_residual-in_err-push.ensures.1 (omega arith)

pub returns-in_err-choice : goal.returns-in_err-choice
returns-in_err-choice c = resumed c.loop-alloc.invariant.0 c.loop-alloc.invariant.1 (same _ (choice_more _ _ (sym c.at.ensures ∙ c.loop-alloc-test.true)) (stops _ c.from_residual-in_err-choice.result c.from_residual-in_err-choice.ensures.1 (only (further_choice_read (sym c.at.ensures ∙ c.loop-alloc-test.true) c.pass.ensures c.in_err-choice.ensures))))

pub returns-in_err-push-2 : goal.returns-in_err-push-2
returns-in_err-push-2 c = memory _ _ _ c.from_residual-in_err-push-2.result c.from_residual-in_err-push-2.ensures.1 (omega arith)

pub returns : goal.returns
returns c = resumed c.loop-alloc.invariant.0 c.loop-alloc.invariant.1 (known (choice_last _ _ (sym c.at.ensures ∙ c.loop-alloc-test.false)) refl)
