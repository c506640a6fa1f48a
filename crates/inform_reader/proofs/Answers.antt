-- What is answered tells the fault of the text.
use Rattle.std.proofs.Common.{◌≡◌, ℕ, List, None, Ok, Err, refl, ap}
use Rattle.inform_tree.specs.declared.widths.Width.{Width}
use Rattle.inform_tree.specs.Programs.{DirectiveTree}
use Rattle.inform_lexer.specs.declared.faults.LexFault.{LexFault}
use Rattle.inform_lexer.specs.declared.kinds.Token.{Token}
use Rattle.inform_lexer.specs.Tokens.{Spelled, Faulty}
use Rattle.inform_grammar.specs.Faults.{FaultKind}
use Rattle.inform_parser.specs.Programs.{IsProgramOf, StandsAt, IsFaultOf}
use Rattle.inform_parser.specs.declared.faults.ParseFault.{ParseFault}
use Rattle.inform_parser.specs.declared.faults.ParseFault.TheVariants as p
use Rattle.inform_names.specs.declared.faults.NameFault.{NameFault}
use Rattle.inform_names.specs.declared.faults.NameFault.TheVariants as n
use Rattle.inform_names.specs.Acceptance.{name_fault}
use Rattle.inform_names.specs.Answers.{IsFirstFault}
use Rattle.inform_texts.specs.Faults.{TextFault, NoTokens, NoSentence, FaultyText}
use Rattle.inform_texts.specs.Reading as text
use Rattle.inform_texts.specs.Laws as t
use Rattle.inform_reader.specs.declared.faults.ProgramFault.TheVariants as f
use Rattle.inform_reader.specs.Reading.{NoProgram, program_or_fault, accepted_of, program_in}
use Rattle.inform_reader.specs.Views.{sentence_answer, Tells}

module _ (law : t.FaultIn) (bytes : List ℕ) (width : Width) where
  no_program : (fault : TextFault) → FaultyText bytes fault → program_in width bytes ≡ Err (NoProgram fault)
  unfolding program_in
  no_program fault is = ap (accepted_of width) ((law bytes fault).1 is)

  pub tokens_told : (fault : LexFault) → Faulty bytes fault → Tells (f.NoTokens fault) (program_in width bytes)
  tokens_told fault is = (NoProgram (NoTokens fault), no_program (NoTokens fault) is, refl)

  stands_told : (tokens : List Token) → Spelled bytes tokens → (kind : FaultKind) (at : ℕ) → StandsAt bytes tokens kind at
      → Tells (f.NoSentence (sentence_answer kind at)) (program_in width bytes)
  stands_told tokens spelled kind at (rest, read, first, stands) = (
    NoProgram (NoSentence kind at),
    no_program (NoSentence kind at) (record { tokens = tokens; rest = rest; spelled = spelled; read = read; stands = stands }),
    refl,
  )

  pub sentence_told : (tokens : List Token) → Spelled bytes tokens → (fault : ParseFault) → (fault ≡ p.Memory → ⊥) → IsFaultOf bytes tokens fault
      → Tells (f.NoSentence fault) (program_in width bytes)
  sentence_told tokens spelled (p.Unexpected at) other is = stands_told tokens spelled _ at is
  sentence_told tokens spelled (p.Mixed at) other is = stands_told tokens spelled _ at is
  sentence_told tokens spelled (p.TooDeep at) other is = stands_told tokens spelled _ at is
  sentence_told tokens spelled p.Memory other is = absurd (other refl)

pub program_told : t.ProgramIn → (bytes : List ℕ) (tokens : List Token) → Spelled bytes tokens → (program : List DirectiveTree)
    → IsProgramOf bytes tokens program → text.program_in bytes ≡ Ok program
program_told law bytes tokens spelled program says =
    (law bytes program).1 (record { tokens = tokens; spelled = spelled; says = says })

-- the first fault of a program's names is told by the answer, unless memory is lacking
pub names_told : (width : Width) (program : List DirectiveTree) (fault : NameFault) → (fault ≡ n.Memory → ⊥) → IsFirstFault width program fault
    → Tells (f.NotAccepted fault) (accepted_of width (Ok program))
names_told width program (n.Twice name) other is = (_, ap (program_or_fault program) is, refl)
names_told width program (n.Missing name) other is = (_, ap (program_or_fault program) is, refl)
names_told width program (n.Kind name) other is = (_, ap (program_or_fault program) is, refl)
names_told width program (n.TooManyLocals name) other is = (_, ap (program_or_fault program) is, refl)
names_told width program (n.TooManyArguments name) other is = (_, ap (program_or_fault program) is, refl)
names_told width program (n.WideNumber number) other is = (_, ap (program_or_fault program) is, refl)
names_told width program (n.Size name) other is = (_, ap (program_or_fault program) is, refl)
names_told width program (n.Outside name) other is = (_, ap (program_or_fault program) is, refl)
names_told width program (n.TooDeep name) other is = (_, ap (program_or_fault program) is, refl)
names_told width program n.MainLocals other is = (_, ap (program_or_fault program) is, refl)
names_told width program n.NoMain other is = (_, ap (program_or_fault program) is, refl)
names_told width program n.Memory other is = absurd (other refl)

pub accepted_is : (width : Width) (program : List DirectiveTree) → name_fault width program ≡ None → accepted_of width (Ok program) ≡ Ok program
accepted_is width program none = ap (program_or_fault program) none

pub read_is : (width : Width) (bytes : List ℕ) (program : List DirectiveTree) → text.program_in bytes ≡ Ok program
    → program_in width bytes ≡ accepted_of width (Ok program)
unfolding program_in
read_is width bytes program is = ap (accepted_of width) is
