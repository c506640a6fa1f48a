-- What is read of a text is its program, or its first fault.
use Rattle.std.proofs.Common.{◌≡◌, ◌∙◌, ℕ, List, Result, Ok, Err, sym, ap, subst, refl}
use Rattle.inform_tree.specs.Programs.{DirectiveTree}
use Rattle.inform_lexer.specs.declared.faults.LexFault.{LexFault}
use Rattle.inform_lexer.specs.declared.kinds.Token.{Token}
use Rattle.inform_lexer.specs.Spans.{lexemes}
use Rattle.inform_lexer.specs.Tokens.{lexed, Spelled}
use Rattle.inform_lexer.specs.Laws as l
use Rattle.inform_grammar.specs.Rule.{program}
use Rattle.inform_grammar.specs.Reading.{Answer, reads, within_limit}
use Rattle.inform_grammar.specs.Laws as g
use Rattle.inform_texts.specs.Texts.{ProgramText}
use Rattle.inform_texts.specs.Faults.{TextFault, FaultyText}
use Rattle.inform_texts.specs.Reading.{program_or_fault, program_of_tokens, program_in}
use Rattle.inform_texts.specs.Laws.{OneProgramAText, NeverBoth, OneFaultAText, ProgramIn, FaultIn}

-- what is read is right
abbrev Right : List ℕ → Result (List DirectiveTree) TextFault → Type 0
Right bytes (Ok p) = ProgramText bytes p
Right bytes (Err f) = FaultyText bytes f

module _ (exact : l.TokensAreExact) (faults : l.FaultIsExact) (read : g.ReadIsSentence) where
  -- what is read of the tokens of a text is the program of the text, or its fault
  right_sentence : (bytes : List ℕ) (tokens : List Token) → Spelled bytes tokens
      → (o : Answer (List DirectiveTree)) → reads within_limit (lexemes bytes tokens) program 0 ≡ o
      → Right bytes (program_or_fault bytes tokens o)
  right_sentence bytes tokens spelled (Ok x) is = record {
    tokens = tokens;
    spelled = spelled;
    says = read within_limit x.0 (lexemes bytes tokens) x.1.opened x.1.rest is;
  }
  right_sentence bytes tokens spelled (Err f) is = record {
    tokens = tokens;
    rest = f.rest;
    spelled = spelled;
    read = is;
    stands = refl;
  }

  right_tokens : (bytes : List ℕ) (o : Result (List Token) LexFault) → lexed bytes ≡ o
      → Right bytes (program_of_tokens bytes o)
  right_tokens bytes (Ok tokens) is =
      right_sentence bytes tokens ((exact bytes tokens).0 is) (reads within_limit (lexemes bytes tokens) program 0) refl
  right_tokens bytes (Err f) is = (faults bytes f).0 is

  right : (bytes : List ℕ) → Right bytes (program_in bytes)
  unfolding program_in
  right bytes = right_tokens bytes (lexed bytes) refl

  pub program_in_law : OneProgramAText → NeverBoth → ProgramIn
  program_in_law one never bytes p = (λ is. subst (Right bytes) is (right bytes), back (program_in bytes) (right bytes)) where
    back : (o : Result (List DirectiveTree) TextFault) → Right bytes o → ProgramText bytes p → o ≡ Ok p
    back (Ok q) is text = ap Ok (one bytes q p is text)
    back (Err f) is text = absurd (never bytes p f text is)

  pub fault_in_law : OneFaultAText → NeverBoth → FaultIn
  fault_in_law one never bytes f = (λ is. subst (Right bytes) is (right bytes), back (program_in bytes) (right bytes)) where
    back : (o : Result (List DirectiveTree) TextFault) → Right bytes o → FaultyText bytes f → o ≡ Err f
    back (Ok q) is faulty = absurd (never bytes q f is faulty)
    back (Err other) is faulty = ap Err (one bytes other f is faulty)
