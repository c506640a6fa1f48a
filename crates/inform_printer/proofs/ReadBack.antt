-- A printed text reads back.
use Rattle.std.proofs.Common.{List, sym, subst}
use Rattle.inform_lexemes.specs.Lexemes.{Lexeme}
use Rattle.inform_lexer.specs.Laws.{TextReadsBack}
use Rattle.inform_grammar.specs.Reading.{within_limit}
use Rattle.inform_grammar.specs.Sentences.{Sentence}
use Rattle.inform_printer.specs.ProgramLexemes.{program_lexemes}
use Rattle.inform_printer.specs.Printing.{printed}
use Rattle.inform_printer.specs.Laws.{PrintedReadsBack}
use Rattle.inform_printer.proofs.ShownPrograms.{printed_is_sentence}
use Rattle.inform_printer.proofs.Writable.{program_written}

-- the printed text of a well-formed program is a text of that program
pub printed_reads_back : TextReadsBack → PrintedReadsBack
unfolding printed
printed_reads_back back p f =
    let read = back (program_lexemes p) (program_written p f) in
    record {
      tokens = read.0;
      spelled = read.1;
      says =
          subst (λ (ts : List Lexeme). Sentence within_limit p ts) (sym read.2)
          (printed_is_sentence p f);
    }
