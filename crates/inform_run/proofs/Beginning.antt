-- `main` at its beginning.
use Rattle.std.proofs.Common.{◌≡◌, ◌∙◌, ℕ, ◌≤◌, List, [], ◌∷◌, Some, ap, arith}
use Rattle.std.specs.Prelude.{slice_get}
use Rattle.std.specs.Option.{option_and_then}
use Rattle.inform_tree.specs.declared.widths.Width.{Width}
use Rattle.inform_tree.specs.Statements.{Statements}
use Rattle.inform_tree.specs.Depths.{statements_depth}
use Rattle.inform_tree.specs.Programs as d
use Rattle.inform_tree.specs.Programs.{DirectiveTree, RoutineTree}
use Rattle.inform_names.specs.declared.meanings.Meaning.{Meaning}
use Rattle.inform_names.specs.Meanings.{meanings}
use Rattle.inform_meaning.specs.Frames as f
use Rattle.inform_meaning.specs.Programs.{routine_in, number_of, routine_named, body_of}
use Rattle.inform_moves.specs.Heights.{Fits}

-- the body of the routine that a name means
pub named-body : (width : Width) (ds : List DirectiveTree) (name : List ℕ) (m : Meaning) (r : RoutineTree)
    → meanings width ds name ≡ Some m → slice_get ds m.at ≡ Some (d.Routine r)
    → body_of (routine_named width ds name) ≡ r.body
named-body width ds name m r is here =
    ap (λ o. body_of (option_and_then (routine_in (number_of o)) (option_and_then (λ m. slice_get ds m.at) o))) is
    ∙ ap (λ o. body_of (option_and_then (routine_in m.at) o)) here

-- a routine of depth 64 keeps within its frames
pub main-fits : (body : Statements) → statements_depth body ≤ 64 → Fits (f.Begins (f.Blocks body) ∷ f.Main ∷ [])
main-fits body shallow = (omega (arith, shallow), (omega arith, tt))
