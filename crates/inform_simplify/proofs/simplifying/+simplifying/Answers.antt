use Rattle.std.proofs.Common.{refl, arith}
use Rattle.inform_simplify.proofs.Layers.{others_stay, block_becomes, while_becomes, do_becomes, for_becomes, switch_becomes, switch_with_default_becomes}
use Rattle.inform_simplify.proofs.Kept.{drops, goes_on, ends_here, ends, case_goes_on, cases_end}
use Rattle.inform_simplify.proofs.simplifying.+simplifying.Goals as goal

pub simplify_statement-returns-in_default : goal.simplify_statement-returns-in_default
simplify_statement-returns-in_default t c = let n = c.in_default in others_stay c.args.statement.now n.not-Block n.not-If n.not-While n.not-Do n.not-For n.not-Switch c.args.width

pub simplify_statement-returns-in_ok-kept-in-Block : goal.simplify_statement-returns-in_ok-kept-in-Block
simplify_statement-returns-in_ok-kept-in-Block t c = block_becomes c.args.width c.args.statement.now c.in-Block.body c.replace.result c.in_ok-kept-in-Block.kept c.in-Block.is (cc) c.in_ok-kept-in-Block.ensures

pub simplify_statement-returns-in_ok-kept-in-While : goal.simplify_statement-returns-in_ok-kept-in-While
simplify_statement-returns-in_ok-kept-in-While t c = while_becomes c.args.width c.args.statement.now c.in-While.test c.replace-in-While-2.result c.in-While.body c.replace-in-While.result c.in_ok-kept-in-While.kept c.in-While.is (cc) (cc) c.requires c.in_ok-kept-in-While.ensures

pub simplify_statement-returns-in_ok-kept-in-Do : goal.simplify_statement-returns-in_ok-kept-in-Do
simplify_statement-returns-in_ok-kept-in-Do t c = do_becomes c.args.width c.args.statement.now c.in-Do.test c.replace-in-Do-2.result c.in-Do.body c.replace-in-Do.result c.in_ok-kept-in-Do.kept c.in-Do.is (cc) (cc) c.in_ok-kept-in-Do.ensures

pub simplify_statement-returns-in_ok-new-in-For : goal.simplify_statement-returns-in_ok-new-in-For
simplify_statement-returns-in_ok-new-in-For t c = for_becomes c.args.width c.args.statement.now c.in-For.head c.replace-head.result c.in-For.body c.replace-in-For.result c.in_ok-kept-in-For.kept c.in-For.is (cc) (cc) c.in_ok-kept-in-For.ensures

pub simplified-loop-statement-preserved-then-is_never_entered :
    goal.simplified-loop-statement-preserved-then-is_never_entered
simplified-loop-statement-preserved-then-is_never_entered t c = drops _ _ _ _ _ _ c.in-Some.ensures.steps.0 c.loop-statement.invariant (cc)

pub simplified-loop-statement-preserved : goal.simplified-loop-statement-preserved
simplified-loop-statement-preserved t c = goes_on _ _ _ _ _ _ c.in-Some.ensures.steps.0 c.loop-statement.invariant c.simplify_statement.new.statement c.push.new.self.items c.in_ok-push.ensures.items c.in_ok-simplify_statement.ensures (cc)

pub simplified-returns-then-last : goal.simplified-returns-then-last
simplified-returns-then-last t c = ends_here _ _ _ _ _ _ c.in-Some.ensures.steps.0 c.loop-statement.invariant c.simplify_statement.new.statement c.push.new.self.items c.in_ok-push.ensures.items c.in_ok-simplify_statement.ensures (cc)

pub simplified-returns : goal.simplified-returns
simplified-returns t c = ends _ _ _ _ (omega (arith, c.loop-statement.statement-iterator.rest.ok.0, c.in-None.ensures.steps.0)) c.loop-statement.invariant

pub simplified_cases-loop-case-preserved : goal.simplified_cases-loop-case-preserved
simplified_cases-loop-case-preserved t c = case_goes_on _ _ _ _ _ _ _ _ _ c.in-Some.ensures.steps.0 c.in_ok-push.ensures.items refl c.replace.ensures.value c.in_ok-body.ensures c.loop-case.invariant

pub simplified_cases-returns : goal.simplified_cases-returns
simplified_cases-returns t c = cases_end _ _ _ _ (omega (arith, c.loop-case.case-iterator.rest.ok.0, c.in-None.ensures.steps.0)) c.loop-case.invariant

pub simplify_statement-returns-in-None : goal.simplify_statement-returns-in-None
simplify_statement-returns-in-None t c = switch_becomes c.args.width c.args.statement.now c.in-Switch.value c.replace-value.result c.in-Switch.cases c.replace-in-Switch.result c.in_ok-kept-in-Switch.kept (cc) (cc) (cc) c.in_ok-kept-in-Switch.ensures

pub simplify_statement-returns-in_ok-rest-in-Some :
    goal.simplify_statement-returns-in_ok-rest-in-Some
simplify_statement-returns-in_ok-rest-in-Some t c = switch_with_default_becomes c.args.width c.args.statement.now c.in-Switch.value c.replace-value.result c.in-Switch.cases c.replace-in-Switch.result c.in_ok-kept-in-Switch.kept c.in-Some.rest c.in-Some.rest c.in_ok-rest-in-Some.rest (cc) (cc) (cc) refl c.in_ok-kept-in-Switch.ensures c.in_ok-rest-in-Some.ensures
