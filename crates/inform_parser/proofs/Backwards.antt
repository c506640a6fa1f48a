-- Tokens that are kept with the next one last.
use Rattle.std.proofs.Common.{◌≡◌, ◌∙◌, ℕ, ◌-◌, ◌≤◌, List, ◌∷◌, get_or, drop, length, reverse, sym, ap, arith}
use Rattle.std.proofs.lemmas.List.{length-reverse, drop_more, get_or-reverse, drop-map}
use Rattle.inform_lexer.specs.declared.kinds.Token.{Token}
use Rattle.inform_lexer.specs.Spans.{lexeme_at, lexemes}

-- the last element is the first
first_back : {X : Type 0} (xs : List X) (d : X) → 1 ≤ length xs → reverse xs ≡ get_or xs (length xs - 1) d ∷ drop 1 (reverse xs)
first_back xs d some =
    drop_more (reverse xs) 0 d (omega (arith, length-reverse xs))
    ∙ ap (λ y. y ∷ drop 1 (reverse xs)) (get_or-reverse xs 0 d (omega arith) ∙ ap (λ n. get_or xs n d) (omega arith))

-- and its lexeme the first of theirs
pub lexeme_first : (bytes : List ℕ) (xs : List Token) (d : Token) → 1 ≤ length xs
    → lexemes bytes (reverse xs) ≡ lexeme_at bytes (get_or xs (length xs - 1) d) ∷ drop 1 (lexemes bytes (reverse xs))
lexeme_first bytes xs d some =
    ap (lexemes bytes) (first_back xs d some) ∙ ap (λ ys. lexeme_at bytes (get_or xs (length xs - 1) d) ∷ ys) (sym (drop-map (lexeme_at bytes) 1 (reverse xs)))
