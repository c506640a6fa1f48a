-- The name of the routine that is a directive.
use Rattle.std.proofs.Common.{◌≡◌, ◌∙◌, ◌<◌, ◌≤◌, ℕ, zero, suc, List, [], ◌∷◌, Some, None, length, get_or, true, false, refl, sym, ap, arith}
use Rattle.std.specs.Prelude.{ltb, map, slice_get, option_map, unwrap_or}
use borrow.Author.Tests.{true-ltb, false-ltb}
use Rattle.inform_tree.specs.declared.programs.Directive.{Directive}
use Rattle.inform_tree.specs.Programs.{directive_of}
use Rattle.inform_names.specs.declared.accepted.Accepted.{Accepted}
use Rattle.inform_names.specs.Views.{directives_of}
use Rattle.scott_tool.specs.Run.{name_in, routine_name}

tree_at : (ds : List Directive) (at : ℕ) (d : Directive) → at < length ds → d ≡ get_or ds at d
    → slice_get (map directive_of ds) at ≡ Some (directive_of d)
tree_at [] at d less is = absurd (omega arith)
tree_at (x ∷ xs) zero d less is = ap (λ y. Some (directive_of y)) (sym is)
tree_at (x ∷ xs) (suc at) d less is = tree_at xs at d (omega arith) is

none_at : (ds : List Directive) (at : ℕ) → length ds ≤ at → slice_get (map directive_of ds) at
    ≡ None
none_at [] at past = refl
none_at (x ∷ xs) zero past = absurd (omega arith)
none_at (x ∷ xs) (suc at) past = none_at xs at (omega arith)

module _ (accepted : Accepted) (ds : List Directive) (same : ds ≡ accepted.program.directives.items)
    (at : ℕ) where
  -- a directive that is there
  pub name-of_directive : (d : Directive) → true ≡ ltb at (length ds) → d ≡ get_or ds at d → name_in
      (directive_of d) ≡ routine_name (directives_of accepted) at
  name-of_directive d less is =
      sym (ap (λ t. unwrap_or (option_map name_in t) [])
      (ap (λ l. slice_get (map directive_of l) at) (sym same) ∙ tree_at ds at d
      (true-ltb at (length ds) less) is))

  -- a number past all directives
  pub name-of_none : false ≡ ltb at (length ds) → [] ≡ routine_name (directives_of accepted) at
  name-of_none past = sym (ap (λ t. unwrap_or (option_map name_in t) [])
      (ap (λ l. slice_get (map directive_of l) at) (sym same) ∙ none_at ds at
      (false-ltb at (length ds) past)))
