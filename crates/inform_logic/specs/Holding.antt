-- Programs that have some directives, among others, and the stage with which a program opens.
use Rattle.std.specs.Prelude.{◌≡◌, ◌≢◌, ℕ, List, [], ◌∷◌, Some, None}
use Rattle.std.specs.List.{AllByRecursion}
use Rattle.inform_tree.specs.declared.widths.Width.{Width}
use Rattle.inform_tree.specs.Programs as t
use Rattle.inform_tree.specs.Programs.{RoutineTree, DirectiveTree}
use Rattle.inform_names.specs.Meanings.{Known, name_of}
use Rattle.inform_meaning.specs.Worlds.{Routine, Program}
use Rattle.inform_meaning.specs.Programs.{global_in, entries_in, opening}
use Rattle.inform_logic.specs.Stages.{Stage, stage_of}

-- the routine of a directive of this number
abbrev pub routine_at : ℕ → RoutineTree → Routine
routine_at at r = record { directive = at; locals = r.locals; body = r.body }

-- a routine of the program has these locals and this body, wherever it stands
abbrev pub Held : Program → DirectiveTree → Type 0
Held p (t.Constant name x) = Unit {0}
Held p (t.Global name x) = Unit {0}
Held p (t.Array name words xs) = Unit {0}
Held p (t.Routine r) = (at : ℕ) × (p.routines r.name ≡ Some (routine_at at r))

-- each of these is held
abbrev pub Holds : Program → List DirectiveTree → Type 0
Holds p ds = AllByRecursion (Held p) ds

-- the program has a routine, and notes nothing where it is entered
pub record Has (p : Program) (r : RoutineTree) : Type 0 where
  pub at : ℕ
  pub there : p.routines r.name ≡ Some (routine_at at r)
  pub unseen : p.notes r.name at ≡ None

-- the program has a routine, and notes this number where it is entered
pub record Notes (p : Program) (r : RoutineTree) (number : ℕ) : Type 0 where
  pub at : ℕ
  pub there : p.routines r.name ≡ Some (routine_at at r)
  pub seen : p.notes r.name at ≡ Some number

-- a global or an array has its first value or entries, where these names are known
abbrev pub Opened : Width → Known → Stage → DirectiveTree → Type 0
Opened width known w (t.Constant name x) = Unit {0}
Opened width known w (t.Global name x) = w.globals name ≡ global_in width known (t.Global name x)
Opened width known w (t.Array name words xs) =
    w.arrays name ≡ Some (entries_in width known words xs)
Opened width known w (t.Routine r) = Unit {0}

-- each of these is opened
abbrev pub Opens : Width → Known → Stage → List DirectiveTree → Type 0
Opens width known w ds = AllByRecursion (Opened width known w) ds

-- the stage with which a program opens
abbrev pub opening_stage : Width → List DirectiveTree → List (List ℕ) → List ℕ → Stage
opening_stage width ds lines draws = stage_of (opening width ds 0 lines draws)

-- no two directives have one name
abbrev pub Distinct : List DirectiveTree → Type 0
Distinct [] = Unit {0}
Distinct (x ∷ xs) = AllByRecursion (λ y. name_of x ≢ name_of y) xs × Distinct xs
