-- What a text is read as: its program, or its first fault.
use Rattle.std.specs.Prelude.{ℕ, List, Result, Ok, Err}
use Rattle.inform_tree.specs.Programs.{DirectiveTree}
use Rattle.inform_lexer.specs.declared.faults.LexFault.{LexFault}
use Rattle.inform_lexer.specs.declared.kinds.Token.{Token}
use Rattle.inform_lexer.specs.Spans.{lexemes}
use Rattle.inform_lexer.specs.Tokens.{lexed}
use Rattle.inform_grammar.specs.Rule.{program}
use Rattle.inform_grammar.specs.Reading.{Answer, reads, within_limit}
use Rattle.inform_texts.specs.Faults.{TextFault, NoTokens, NoSentence, place_of, left}

abbrev pub program_or_fault : List ℕ → List Token → Answer (List DirectiveTree)
    → Result (List DirectiveTree) TextFault
program_or_fault bytes tokens (Ok read) = Ok read.0
program_or_fault bytes tokens (Err f) =
    Err (NoSentence f.kind (place_of bytes (left tokens f.rest)))

-- by the tokens of the bytes, or their first fault
abbrev pub program_of_tokens : List ℕ → Result (List Token) LexFault
    → Result (List DirectiveTree) TextFault
program_of_tokens bytes (Ok tokens) =
    program_or_fault bytes tokens (reads within_limit (lexemes bytes tokens) program 0)
program_of_tokens bytes (Err f) = Err (NoTokens f)

unfoldable pub program_in : List ℕ → Result (List DirectiveTree) TextFault
program_in bytes = program_of_tokens bytes (lexed bytes)
