-- The worked examples hold by computing.
use Rattle.std.proofs.Common.{ℕ, ◌+◌, [], ◌∷◌, refl}
use Rattle.inform_lexemes.specs.Symbols.{symbol_spelled}
use Rattle.inform_lexemes.specs.Keywords.{keyword_spelled}
use Rattle.inform_lexemes.specs.Lexemes.{word_lexeme}
use Rattle.inform_lexer.specs.declared.kinds.Kind.{Kind}
use Rattle.inform_lexer.specs.declared.kinds.Kind.TheVariants as kind
use Rattle.inform_lexer.specs.declared.kinds.Token.{Token}
use Rattle.inform_lexer.specs.Pieces.{Piece, none, first, here, later}
use Rattle.inform_lexer.specs.Tokens.{token_step}
use Rattle.inform_grammar.specs.Rule.{global_after, directive, program, rule}
use Rattle.inform_grammar.specs.Reading.{step, reads}
use Rattle.inform_grammar.specs.Values.{a_number}
use Rattle.inform_grammar.specs.Sentences.{constant, no_more, one_more}
use Rattle.inform_texts.specs.Worked.{LayoutLeavesNoTrace, FaultsPlaced}

-- a token of this kind and place, with so many bytes after its first one
abbrev token : Kind → ℕ → ℕ → Piece (Unit {0}) Token
token k at more =
    record { gives = record { kind = k; start = at; end = at + 1 + more } ∷ []; more = more; next = tt }

-- blanks or a comment
abbrev gap : ℕ → Piece (Unit {0}) Token
gap more = record { gives = []; more = more; next = tt }

pub layout_leaves_no_trace : LayoutLeavesNoTrace
unfolding token_step symbol_spelled keyword_spelled word_lexeme
layout_leaves_no_trace = record {
  tokens = _;
  spelled =
      first (token kind.Word 0 7) refl (first (gap 0) refl (first (token kind.Word 9 0) refl
      (first (token kind.Symbol 10 0) refl (first (token kind.Number 11 2) refl
      (first (token kind.Symbol 14 0) refl (first (gap 3) refl none))))));
  says = one_more (constant a_number) no_more;
}

-- the faults of the examples stand at a token, at the end of the text, and at a bad character
pub faults_placed : FaultsPlaced
unfolding token_step symbol_spelled keyword_spelled word_lexeme reads step program rule directive
    global_after
faults_placed = (
  record {
    tokens = _;
    rest = _;
    spelled =
        first (token kind.Word 0 5) refl (first (gap 0) refl (first (token kind.Word 7 0) refl
        (first (token kind.Symbol 8 0) refl (first (gap 0) refl
        (first (token kind.Number 10 0) refl none)))));
    read = refl;
    stands = refl;
  },
  record {
    tokens = _;
    rest = [];
    spelled =
        first (token kind.Word 0 5) refl (first (gap 0) refl (first (token kind.Word 7 0) refl
        (first (gap 0) refl none)));
    read = refl;
    stands = refl;
  },
  later (token kind.Symbol 0 0) refl (later (gap 0) refl (here refl)),
)
