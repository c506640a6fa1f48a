use Rattle.std.proofs.Common.{◌≡◌, ◌++◌, drop, map}
use Rattle.inform_tree.specs.Programs.{directive_of}
use Rattle.inform_lexer.specs.Written.{text_of}
use Rattle.inform_printer.specs.ProgramLexemes.{program_lexemes}
use Rattle.inform_printer.proofs.programs.put_program.Given as goal

abbrev pub invariant-loop-directive : goal.invariant-loop-directive
invariant-loop-directive l =
    l.out.items ++ text_of (program_lexemes (map directive_of
    (drop l.directive-index l.directive-items)))
    ≡ text_of (program_lexemes (map directive_of l.directive-items))
