-- A lexeme that was written with the byte after it is printed, whatever follows.
use Rattle.std.proofs.Common.{◌≡◌, ℕ, List, [], ◌∷◌, ◌++◌, ap, ◌∙◌, append_assoc}
use Rattle.inform_lexemes.specs.Lexemes.{Lexeme}
use Rattle.inform_lexer.specs.Written.{written, gap_after, text_of}
use Rattle.inform_printer.specs.Printing.{Prints}

pub prints_lexeme : (x : Lexeme) (old new : List ℕ) → new ≡ old ++ (written x ++ gap_after x ∷ [])
    → Prints (λ rest. x ∷ rest) old new
unfolding text_of
prints_lexeme x old new is rest =
    ap (λ (bytes : List ℕ). bytes ++ text_of rest) is
    ∙ append_assoc old (written x ++ gap_after x ∷ []) (text_of rest)
    ∙ ap (λ (bytes : List ℕ). old ++ bytes) (append_assoc (written x) (gap_after x ∷ [])
    (text_of rest))

-- the same where the byte after it was written last
pub prints_pair : (x : Lexeme) (old mid new : List ℕ) → mid ≡ old ++ written x
    → new ≡ mid ++ gap_after x ∷ [] → Prints (λ rest. x ∷ rest) old new
prints_pair x old mid new is last =
    prints_lexeme x old new (last ∙ ap (λ (bytes : List ℕ). bytes ++ gap_after x ∷ []) is
    ∙ append_assoc old (written x) (gap_after x ∷ []))
