-- A loop that prints a list ends with all of it printed.
use Rattle.std.proofs.Common.{◌≡◌, ℕ, ◌≤◌, List, [], ◌++◌, length, drop, sym, ap, ◌∙◌}
use Rattle.std.proofs.lemmas.List.{drop_all}
use Rattle.inform_lexemes.specs.Lexemes.{Lexeme}
use Rattle.inform_lexer.specs.Written.{text_of}

-- what is still to be printed is seen by the first function, and all of it by the second one
pub ended : {X : Type 0} (later whole : List X → List Lexeme → List Lexeme) (xs ys : List X) (i : ℕ)
    (before now : List ℕ)
    → length xs ≤ i → xs ≡ ys
    → ((rest : List Lexeme) → now ++ text_of (later (drop i xs) rest) ≡ before ++ text_of
    (whole xs rest))
    → (rest : List Lexeme) → now ++ text_of (later [] rest) ≡ before ++ text_of (whole ys rest)
ended {X = X} later whole xs ys i before now past same invariant rest =
    ap (λ (zs : List X). now ++ text_of (later zs rest)) (sym (drop_all i xs past))
    ∙ invariant rest
    ∙ ap (λ (zs : List X). before ++ text_of (whole zs rest)) same
