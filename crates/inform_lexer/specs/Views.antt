-- The program's pieces, as the definitions have them.
use Rattle.std.specs.Prelude.{ℕ, ◌≡◌, ◌+◌, ◌++◌, Bool, List, [], ◌∷◌, replicate, Option, Some, None, Result, Ok, Err}
use Rattle.inform_lexer.specs.declared.runs.Run.{Run}
use Rattle.inform_lexer.specs.declared.runs.Run.TheVariants as run
use Rattle.inform_lexer.specs.declared.strings.StringPiece.{StringPiece}
use Rattle.inform_lexer.specs.declared.pieces.Found.{Found}
use Rattle.inform_lexer.specs.declared.kinds.Kind.{Kind}
use Rattle.inform_lexer.specs.declared.kinds.Token.{Token}
use Rattle.inform_lexer.specs.declared.faults.LexFault.{LexFault}
use Rattle.inform_lexer.specs.declared.faults.LexFault.TheVariants.{Memory}
use Rattle.inform_lexer.specs.Pieces.{Piece}
use Rattle.inform_lexer.specs.Bytes.{is_blank, is_comment_byte, is_word_byte, is_digit_in, is_inside}
use Rattle.inform_lexer.specs.Strings.{StringStep}
use Rattle.inform_lexer.specs.Tokens.{TokenStep}

-- what a run goes on with
abbrev pub in_run : Run → ℕ → Bool
in_run run.Blanks = is_blank
in_run run.Comment = is_comment_byte
in_run run.Word = is_word_byte
in_run run.Inside = is_inside
in_run (run.Digits base) = is_digit_in base

abbrev pub piece_of : StringPiece → Piece Bool ℕ
piece_of p = record { gives = replicate p.count p.byte; more = p.more; next = p.caret }

abbrev pub string_view : Result StringPiece ℕ → StringStep
string_view (Ok p) = Ok (piece_of p)
string_view (Err place) = Err place

-- the token that a piece at this place is, if it is one
abbrev pub given : ℕ → Option Kind → ℕ → List Token
given at (Some kind) more = record { kind = kind; start = at; end = at + 1 + more } ∷ []
given at None more = []

abbrev pub piece_at : ℕ → Found → Piece (Unit {0}) Token
piece_at at found = record { gives = given at found.kind found.more; more = found.more; next = tt }

abbrev pub token_view : ℕ → Result Found LexFault → TokenStep
token_view at (Ok found) = Ok (piece_at at found)
token_view at (Err fault) = Err fault

-- what a piece gives was added to the tokens, and so many bytes stand after its first one; or the
-- fault is answered
abbrev pub Reads : TokenStep → List Token → List Token → Result ℕ LexFault → Type 0
Reads (Ok p) before after (Ok more) = (after ≡ before ++ p.gives) × (more ≡ p.more)
Reads (Ok p) before after (Err fault) = fault ≡ Memory
Reads (Err expected) before after (Ok more) = ⊥
Reads (Err expected) before after (Err fault) = fault ≡ expected

-- the place of what is refused, if anything is
abbrev pub refused_at : Result (List ℕ) ℕ → Option ℕ
refused_at (Ok text) = None
refused_at (Err place) = Some place
