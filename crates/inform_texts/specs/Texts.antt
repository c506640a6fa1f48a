-- What it is for a text to be the text of a program.
use Rattle.std.specs.Prelude.{ℕ, List}
use Rattle.inform_tree.specs.Programs.{DirectiveTree}
use Rattle.inform_lexer.specs.declared.kinds.Token.{Token}
use Rattle.inform_lexer.specs.Tokens.{Spelled}
use Rattle.inform_lexer.specs.Spans.{lexemes}
use Rattle.inform_grammar.specs.Reading.{within_limit}
use Rattle.inform_grammar.specs.Sentences.{Sentence}

-- the bytes are tokens, with blanks and comments before, between and after them, and what these say
-- is a sentence of the
-- program, with no more openers open at a time than the limit
pub record ProgramText (bytes : List ℕ) (p : List DirectiveTree) : Type 0 where
  pub tokens : List Token
  pub spelled : Spelled bytes tokens
  pub says : Sentence within_limit p (lexemes bytes tokens)
