-- One more zero after others.
use Rattle.std.proofs.Common.{◌≡◌, ◌∙◌, ℕ, ◌+◌, List, [], ◌∷◌, ◌++◌, replicate, ap, append_assoc}
use Rattle.std.proofs.lemmas.List.{replicate-append-replicate}

pub one_more : (xs : List ℕ) (k : ℕ)
    → (xs ++ replicate k 0) ++ 0 ∷ [] ≡ xs ++ replicate (k + 1) 0
one_more xs k = append_assoc xs (replicate k 0) (0 ∷ [])
    ∙ ap (λ zs. xs ++ zs) (replicate-append-replicate k 1 0)
