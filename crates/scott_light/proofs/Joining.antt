-- Texts that are joined, by the first one and the others.
use Rattle.std.proofs.Common.{◌≡◌, ◌∙◌, ℕ, ◌-◌, ◌≤◌, List, [], ◌∷◌, ◌++◌, length, take, drop, get_or, map, sym, ap, arith}
use Rattle.adv_io.specs.Text.{joined}
use Rattle.std.specs.Prelude.{flat_map}
use Rattle.std.proofs.lemmas.List.{take_all}
use Rattle.std.proofs.lemmas.List.Folds.{flat_map-map}

pub joined-parts : {X : Type 0} (text : X → List ℕ) (separator : List ℕ) (xs : List X) (d : X) → 1 ≤ length xs
    → text (get_or xs 0 d) ++ flat_map (λ x. separator ++ text x) (take (length xs - 1) (drop 1 xs)) ≡ joined separator (map text xs)
joined-parts text separator [] d h = absurd (omega arith)
joined-parts text separator (x ∷ xs) d h =
    ap (λ others. text x ++ flat_map (λ other. separator ++ text other) others) (take_all (length (x ∷ xs) - 1) xs (omega arith))
    ∙ ap (λ rest. text x ++ rest) (sym (flat_map-map (λ other. separator ++ other) text xs))
