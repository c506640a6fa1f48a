-- How many arguments a call has, by its list.
use Rattle.std.proofs.Common.{◌≡◌, List, [], ◌∷◌, length, refl, arith}
use Rattle.inform_tree.specs.declared.values.Expr.{Expr}
use Rattle.inform_tree.specs.Values.{arguments_of}
use Rattle.inform_names.specs.Demands.{argument_count}

pub count_is_length : (xs : List Expr) → argument_count (arguments_of xs) ≡ length xs
count_is_length [] = refl
count_is_length (x ∷ xs) = omega (arith, count_is_length xs)
