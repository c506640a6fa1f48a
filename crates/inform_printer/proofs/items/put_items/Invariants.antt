use Rattle.std.proofs.Common.{◌≡◌, ◌++◌, List, false, drop, map}
use Rattle.inform_tree.specs.Statements.{print_item_of}
use Rattle.inform_lexemes.specs.Lexemes.{Lexeme}
use Rattle.inform_lexer.specs.Written.{text_of}
use Rattle.inform_printer.specs.StatementLexemes.{items_lexemes}
use Rattle.inform_printer.proofs.items.put_items.Given as goal

abbrev pub invariant-loop-item : goal.invariant-loop-item
invariant-loop-item l =
    (rest : List Lexeme) → l.out.items ++ text_of
    (items_lexemes l.later (map print_item_of (drop l.item-index l.items)) rest)
    ≡ l.fn.out.items ++ text_of (items_lexemes false (map print_item_of l.items) rest)
