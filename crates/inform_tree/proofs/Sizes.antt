-- Whether a chain has its members, by the length of its list.
use Rattle.std.proofs.Common.{◌≡◌, List, [], ◌∷◌, length, refl, sym, arith, lt-ltb, le-leb}
use Rattle.std.specs.Prelude.{nat_lt, nat_le}
use Rattle.inform_tree.specs.declared.values.SumOp.{SumOp}
use Rattle.inform_tree.specs.declared.values.ProdOp.{ProdOp}
use Rattle.inform_tree.specs.declared.values.Expr.{Expr}
use Rattle.inform_tree.specs.declared.conditions.Cond.{Cond}
use Rattle.inform_tree.specs.Values.{terms_of, factors_of}
use Rattle.inform_tree.specs.Conditions.{conditions_of}
use Rattle.inform_tree.specs.Formed.{has_terms, has_factors, has_two}

pub some_terms : (xs : List (SumOp × Expr)) → has_terms (terms_of xs) ≡ nat_lt 0 (length xs)
some_terms [] = refl
some_terms (x ∷ xs) = sym (lt-ltb 0 (length (x ∷ xs)) (omega arith))

pub some_factors : (xs : List (ProdOp × Expr)) → has_factors (factors_of xs) ≡ nat_lt 0 (length xs)
some_factors [] = refl
some_factors (x ∷ xs) = sym (lt-ltb 0 (length (x ∷ xs)) (omega arith))

pub two_conditions : (xs : List Cond) → has_two (conditions_of xs) ≡ nat_le 2 (length xs)
two_conditions [] = refl
two_conditions (x ∷ []) = refl
two_conditions (x ∷ (y ∷ xs)) = sym (le-leb 2 (length (x ∷ y ∷ xs)) (omega arith))
