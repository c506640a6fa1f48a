use Rattle.std.proofs.Common.{◌≡◌, ◌++◌, List, false, drop}
use Rattle.inform_tree.specs.Conditions.{conditions_of}
use Rattle.inform_lexemes.specs.Lexemes.{Lexeme}
use Rattle.inform_lexer.specs.Written.{text_of}
use Rattle.inform_printer.specs.ConditionLexemes.{member_lexemes}
use Rattle.inform_printer.proofs.conditions.+conditions.Given as goal

abbrev pub invariant-put_members-loop-member : goal.invariant-put_members-loop-member
invariant-put_members-loop-member l =
    (rest : List Lexeme) → l.out.items ++ text_of
    (member_lexemes l.symbol l.later (conditions_of (drop l.member-index l.member-items)) rest)
    ≡ l.fn.out.items ++ text_of (member_lexemes l.symbol false (conditions_of l.member-items) rest)
