-- The world with which a program opens.
use Rattle.std.proofs.Common.{◌≡◌, ◌∙◌, ◌≤◌, arith, length, ℕ, zero, suc, ℤ, pos, Bool, List, [], ◌∷◌, Option, Some, None, refl, sym, ap}
use Rattle.std.specs.Prelude.{slice_get, unwrap_or, if◌then◌else◌, map, option_map, take}
use Rattle.std.specs.Option.{option_and_then}
use Rattle.std.proofs.Math.Path.{fun_ext}
use Rattle.inform_tree.specs.declared.widths.Width.{Width}
use Rattle.inform_tree.specs.Programs as d
use Rattle.inform_tree.specs.Programs.{DirectiveTree, RoutineTree}
use Rattle.inform_names.specs.declared.meanings.Kind.{Kind}
use Rattle.inform_names.specs.declared.meanings.Meaning.{Meaning}
use Rattle.inform_names.specs.Meanings.{Known, meanings, kind_of, first_directive}
use Rattle.inform_names.specs.Places.{is_global}
use Rattle.inform_names.specs.Laws.{MeaningsAreOfDirectives, IsMeaningOf}
use Rattle.inform_names.specs.Acceptance.{main}
use Rattle.inform_meaning.specs.Programs.{global_in, array_in, number_of, routine_in, routine_named, main_scope, opening_world}
use Rattle.inform_meaning.specs.Worlds.{Scope, World}
use Rattle.inform_worlds.proofs.Tables.{map_get}
use Rattle.inform_worlds.specs.Worlds.{kept_by, globals_of, arrays_of, is_any_array}

-- A directive whose kind passes the test has a value, the others have none.
module _ {X : Type 0} (test : Kind → Bool) (value : DirectiveTree → Option X) (other : X) (width : Width) (program : List DirectiveTree)
    (fits : (known : Known) (directive : DirectiveTree)
    → value directive ≡ (if test (kind_of width known directive) then Some (unwrap_or (value directive) other) else None))
    (law : MeaningsAreOfDirectives) where
  abbrev values : List X
  values = map (λ directive. unwrap_or (value directive) other) program

  with-directive : (name : List ℕ) (m : Meaning) (directive : DirectiveTree)
      → IsMeaningOf width program name m directive
      → kept_by test values (Some m) ≡ option_and_then value (slice_get program m.at)
  with-directive name m directive is =
      ap (λ kind. if test kind then slice_get values m.at else None) is.2
      ∙ ap (λ o. if test (kind_of width (meanings width (take m.at program)) directive) then o else None)
      (map_get (λ directive. unwrap_or (value directive) other) program m.at ∙ ap (option_map (λ directive. unwrap_or (value directive) other)) is.0)
      ∙ sym (fits (meanings width (take m.at program)) directive)
      ∙ sym (ap (option_and_then value) is.0)

  by-meaning : (name : List ℕ) (o : Option Meaning) → meanings width program name ≡ o
      → kept_by test values o ≡ option_and_then value (option_and_then (λ m. slice_get program m.at) o)
  by-meaning name None is = refl
  by-meaning name (Some m) is = let found = law width program name m is in
      with-directive name m found.0 found.1

  pub opened : ◌≡◌ {A = List ℕ → Option X} (λ name. kept_by test values (meanings width program name))
      (λ name. option_and_then value (first_directive width program name))
  opened = fun_ext (λ name. by-meaning name (meanings width program name) refl)

module _ (law : MeaningsAreOfDirectives) (width : Width) (program : List DirectiveTree) where
  fits-global : (of known : Known) (directive : DirectiveTree)
      → global_in width of directive
      ≡ (if is_global (kind_of width known directive) then Some (unwrap_or (global_in width of directive) (pos 0)) else None)
  fits-global of known (d.Constant name value) = refl
  fits-global of known (d.Global name None) = refl
  fits-global of known (d.Global name (Some x)) = refl
  fits-global of known (d.Array name words entries) = refl
  fits-global of known (d.Routine r) = refl

  fits-array : (of known : Known) (directive : DirectiveTree)
      → array_in width of directive
      ≡ (if is_any_array (kind_of width known directive) then Some (unwrap_or (array_in width of directive) []) else None)
  fits-array of known (d.Constant name value) = refl
  fits-array of known (d.Global name value) = refl
  fits-array of known (d.Array name words entries) = refl
  fits-array of known (d.Routine r) = refl

  pub opening_globals : globals_of (meanings width program) (map (λ d. unwrap_or (global_in width (meanings width program) d) (pos 0)) program)
      ≡ (λ name. option_and_then (global_in width (meanings width program)) (first_directive width program name))
  opening_globals =
      opened is_global (global_in width (meanings width program)) (pos 0) width program (fits-global (meanings width program)) law

  pub opening_arrays : arrays_of (meanings width program) (map (λ d. unwrap_or (array_in width (meanings width program) d) []) program)
      ≡ (λ name. option_and_then (array_in width (meanings width program)) (first_directive width program name))
  opening_arrays =
      opened is_any_array (array_in width (meanings width program)) [] width program (fits-array (meanings width program)) law

  -- the scope of `main`
  main_begins : (at : ℕ) (kind : Kind) (r : RoutineTree) → meanings width program main ≡ Some (record { at = at; kind = kind })
      → slice_get program at ≡ Some (d.Routine r) → main_scope (routine_named width program main) ≡ record { directive = at; locals = [] }
  main_begins at kind r is there =
      ap (λ o. main_scope (option_and_then (routine_in (number_of o)) (option_and_then (λ m. slice_get program m.at) o))) is
      ∙ ap (λ o. main_scope (option_and_then (routine_in at) o)) there

  -- first values of globals and arrays, and the scope of `main`, are the world of the opening
  pub opened_world : (globals : List ℤ) (arrays : List (List ℤ)) (scope : Scope) (at : ℕ) (kind : Kind) (r : RoutineTree)
      → globals ≡ map (λ d. unwrap_or (global_in width (meanings width program) d) (pos 0)) program
      → arrays ≡ map (λ d. unwrap_or (array_in width (meanings width program) d) []) program
      → scope ≡ record { directive = at; locals = [] }
      → meanings width program main ≡ Some (record { at = at; kind = kind }) → slice_get program at ≡ Some (d.Routine r)
      → ◌≡◌ {A = World} (record { globals = globals_of (meanings width program) globals; arrays = arrays_of (meanings width program) arrays; scope = scope })
      (opening_world width program (routine_named width program main))
  opened_world globals arrays scope at kind r g a s is there = λ i. record {
    globals = (ap (globals_of (meanings width program)) g ∙ opening_globals) i;
    arrays = (ap (arrays_of (meanings width program)) a ∙ opening_arrays) i;
    scope = (s ∙ sym (main_begins at kind r is there)) i;
  }

-- ---- what a walk over the directives has made

pub all_mapped : {X Y Z : Type 0} (f : X → Y) (g : Y → Z) (xs : List X) (i : ℕ) → length xs ≤ i
    → map (λ x. g (f x)) (take i xs) ≡ map g (map f xs)
all_mapped f g [] zero h = refl
all_mapped f g [] (suc i) h = refl
all_mapped f g (x ∷ xs) zero h = absurd (omega (arith, h))
all_mapped f g (x ∷ xs) (suc i) h = ap (λ zs. g (f x) ∷ zs) (all_mapped f g xs i (omega (arith, h)))
