use Rattle.std.proofs.Common.{◌≡◌, ◌++◌, false, drop}
use Rattle.inform_lexer.specs.Written.{string_text}
use Rattle.inform_printer.proofs.strings.put_inside.Given as goal

abbrev pub invariant-loop-byte : goal.invariant-loop-byte
invariant-loop-byte l =
    l.out.items ++ string_text l.escaped (drop l.byte-index l.text) ≡ l.fn.out.items
    ++ string_text false l.text
