-- The lexemes with which statements are printed, before those that follow.
use Rattle.std.specs.Prelude.{Bool, true, false, List, [], ◌∷◌, Option, Some, None}
use Rattle.inform_tree.specs.declared.values.Const.{Const}
use Rattle.inform_tree.specs.declared.statements.Head.{Head}
use Rattle.inform_tree.specs.Conditions.{Condition}
use Rattle.inform_tree.specs.Statements as s
use Rattle.inform_tree.specs.Statements.{Statement, Statements, Cases, Default, Assignment, PrintItem, Choice, assignment_if_any, condition_if_any}
use Rattle.inform_lexemes.specs.declared.symbols.Symbol.TheVariants.{Semicolon, Comma, Colon, LeftRound, RightRound, LeftBrace, RightBrace, Assign, Increment, Decrement}
use Rattle.inform_lexemes.specs.declared.keywords.Keyword.TheVariants as w
use Rattle.inform_lexemes.specs.Lexemes.{Lexeme, Word, Name, Quoted, Sign}
use Rattle.inform_grammar.specs.Lexemes.{arrow}
use Rattle.inform_printer.specs.ValueLexemes.{round, separated, constant_lexemes, value_lexemes, argument_lexemes}
use Rattle.inform_printer.specs.ConditionLexemes.{condition_lexemes}

-- ---- changes, items of `print` and choices

abbrev pub assignment_lexemes : Assignment → List Lexeme → List Lexeme
assignment_lexemes (s.Set name x) rest = Name name ∷ Sign Assign ∷ value_lexemes false x rest
assignment_lexemes (s.SetEntry name words index x) rest =
    Name name ∷ Sign (arrow words) ∷ value_lexemes true index
    (Sign Assign ∷ value_lexemes false x rest)
assignment_lexemes (s.Inc name) rest = Name name ∷ Sign Increment ∷ rest
assignment_lexemes (s.Dec name) rest = Name name ∷ Sign Decrement ∷ rest

-- what may be left out, in these lexemes
abbrev pub optional_lexemes : {X : Type 0} → (X → List Lexeme → List Lexeme) → Option X
    → List Lexeme → List Lexeme
optional_lexemes lexemes None rest = rest
optional_lexemes lexemes (Some x) rest = lexemes x rest

abbrev pub item_lexemes : PrintItem → List Lexeme → List Lexeme
item_lexemes (s.Text text) rest = Quoted text ∷ rest
item_lexemes (s.Value x) rest = value_lexemes false x rest
item_lexemes (s.Char x) rest =
    Sign LeftRound ∷ Word w.Char ∷ Sign RightRound ∷ value_lexemes false x rest

-- the truth value tells whether one stands before them
abbrev pub items_lexemes : Bool → List PrintItem → List Lexeme → List Lexeme
items_lexemes later [] rest = rest
items_lexemes later (x ∷ xs) rest =
    separated later Comma (item_lexemes x (items_lexemes true xs rest))

abbrev pub upper_lexemes : Const → List Lexeme → List Lexeme
upper_lexemes x rest = Word w.To ∷ constant_lexemes x rest

abbrev pub choice_lexemes : Choice → List Lexeme → List Lexeme
choice_lexemes x rest = constant_lexemes x.0 (optional_lexemes upper_lexemes x.1 rest)

abbrev pub choices_lexemes : Bool → List Choice → List Lexeme → List Lexeme
choices_lexemes later [] rest = rest
choices_lexemes later (x ∷ xs) rest =
    separated later Comma (choice_lexemes x (choices_lexemes true xs rest))

-- what stands in the brackets of a `for`, with them
abbrev pub head_lexemes : Option Assignment → Option Condition → Option Assignment → List Lexeme
    → List Lexeme
head_lexemes first test next rest =
    Sign LeftRound ∷ optional_lexemes assignment_lexemes first
    (Sign Colon ∷ optional_lexemes (condition_lexemes false) test
    (Sign Colon ∷ optional_lexemes assignment_lexemes next (Sign RightRound ∷ rest)))

-- the same of a head of the program
abbrev pub head_lexemes_of : Head → List Lexeme → List Lexeme
head_lexemes_of head rest =
    head_lexemes (assignment_if_any head.first) (condition_if_any head.test)
    (assignment_if_any head.next) rest

-- ---- statements

-- an `else` with its body, unless that has no statement
abbrev pub unless_none : Statements → (List Lexeme → List Lexeme) → List Lexeme → List Lexeme
unless_none s.NoStatements lexemes rest = rest
unless_none (s.MoreStatements x xs) lexemes rest = lexemes rest

-- every body stands in braces
abbrev pub braced : (List Lexeme → List Lexeme) → List Lexeme → List Lexeme
braced inside rest = Sign LeftBrace ∷ inside (Sign RightBrace ∷ rest)

abbrev mutual
  pub statement_lexemes : Statement → List Lexeme → List Lexeme
  statement_lexemes s.Empty rest = Sign Semicolon ∷ rest
  statement_lexemes (s.Block body) rest = braced (statements_lexemes body) rest
  statement_lexemes (s.Assign change) rest = assignment_lexemes change (Sign Semicolon ∷ rest)
  statement_lexemes (s.Call name xs) rest =
      Name name ∷ Sign LeftRound ∷ argument_lexemes false xs (Sign Semicolon ∷ rest)
  statement_lexemes (s.If test body other) rest =
      Word w.If ∷ round (condition_lexemes false test) (braced (statements_lexemes body)
      (unless_none other (λ after. Word w.Else ∷ braced (statements_lexemes other) after) rest))
  statement_lexemes (s.While test body) rest =
      Word w.While ∷ round (condition_lexemes false test) (braced (statements_lexemes body) rest)
  statement_lexemes (s.Do body test) rest =
      Word w.Do ∷ braced (statements_lexemes body)
      (Word w.Until ∷ round (condition_lexemes false test) (Sign Semicolon ∷ rest))
  statement_lexemes (s.For first test next body) rest =
      Word w.For ∷ head_lexemes first test next (braced (statements_lexemes body) rest)
  statement_lexemes (s.Switch x xs other) rest =
      Word w.Switch ∷ round (value_lexemes false x)
      (braced (λ after. cases_lexemes xs (default_lexemes other after)) rest)
  statement_lexemes s.Break rest = Word w.Break ∷ Sign Semicolon ∷ rest
  statement_lexemes s.Continue rest = Word w.Continue ∷ Sign Semicolon ∷ rest
  statement_lexemes s.Quit rest = Word w.Quit ∷ Sign Semicolon ∷ rest
  statement_lexemes s.Rtrue rest = Word w.Rtrue ∷ Sign Semicolon ∷ rest
  statement_lexemes s.Rfalse rest = Word w.Rfalse ∷ Sign Semicolon ∷ rest
  statement_lexemes (s.Return x) rest =
      Word w.Return ∷ optional_lexemes (value_lexemes false) x (Sign Semicolon ∷ rest)
  statement_lexemes s.NewLine rest = Word w.NewLine ∷ Sign Semicolon ∷ rest
  statement_lexemes (s.Print items) rest =
      Word w.Print ∷ items_lexemes false items (Sign Semicolon ∷ rest)
  statement_lexemes (s.Read line words) rest =
      Word w.Read ∷ Name line ∷ Name words ∷ Sign Semicolon ∷ rest

  pub statements_lexemes : Statements → List Lexeme → List Lexeme
  statements_lexemes s.NoStatements rest = rest
  statements_lexemes (s.MoreStatements x xs) rest = statement_lexemes x (statements_lexemes xs rest)

  pub cases_lexemes : Cases → List Lexeme → List Lexeme
  cases_lexemes s.NoCases rest = rest
  cases_lexemes (s.MoreCases choices body xs) rest =
      choices_lexemes false choices (Sign Colon ∷ statements_lexemes body (cases_lexemes xs rest))

  pub default_lexemes : Default → List Lexeme → List Lexeme
  default_lexemes s.NoDefault rest = rest
  default_lexemes (s.SomeDefault body) rest =
      Word w.Default ∷ Sign Colon ∷ statements_lexemes body rest

-- ---- parts of statements

abbrev pub body_lexemes : Statements → List Lexeme → List Lexeme
body_lexemes body rest = braced (statements_lexemes body) rest

-- what follows the body of an `if`
abbrev pub else_lexemes : Statements → List Lexeme → List Lexeme
else_lexemes other rest = unless_none other (λ after. Word w.Else ∷ body_lexemes other after) rest
