use Rattle.std.proofs.Common.{List, false}
use Rattle.inform_tree.specs.declared.conditions.Cond.{Cond}
use Rattle.inform_tree.specs.Conditions.{conditions_of}
use Rattle.inform_lexemes.specs.Lexemes.{Lexeme}
use Rattle.inform_printer.specs.ConditionLexemes.{member_lexemes}
use Rattle.inform_printer.proofs.Loops.{ended}
use Rattle.inform_printer.proofs.conditions.+conditions.Goals as goal

pub put_members-returns : goal.put_members-returns
put_members-returns t c =
    let symbol = c.args.symbol in
    let l = c.loop-member in
    let later : List Cond → List Lexeme → List Lexeme =
    λ xs. member_lexemes symbol l.later (conditions_of xs) in
    let whole : List Cond → List Lexeme → List Lexeme =
    λ xs. member_lexemes symbol false (conditions_of xs) in
    ended later whole _ _ l.member-index _ _ c.loop-member-test.false
    c.deref-member-items.ensures.value l.invariant
