-- The laws of printed programs.
use Rattle.std.specs.Prelude.{◌≡◌, true, List}
use Rattle.inform_tree.specs.Programs.{DirectiveTree}
use Rattle.inform_tree.specs.Formed.{is_well_formed}
use Rattle.inform_grammar.specs.Reading.{within_limit}
use Rattle.inform_grammar.specs.Sentences.{Sentence}
use Rattle.inform_texts.specs.Texts.{ProgramText}
use Rattle.inform_printer.specs.ProgramLexemes.{program_lexemes}
use Rattle.inform_printer.specs.Printing.{printed}

-- the lexemes of a well-formed program are a sentence of it, with no more openers than the limit
abbrev pub PrintedIsSentence : Type 0
PrintedIsSentence =
    (p : List DirectiveTree) → is_well_formed p ≡ true → Sentence within_limit p (program_lexemes p)

-- the printed text of a well-formed program is a text of that program
abbrev pub PrintedReadsBack : Type 0
PrintedReadsBack = (p : List DirectiveTree) → is_well_formed p ≡ true → ProgramText (printed p) p
