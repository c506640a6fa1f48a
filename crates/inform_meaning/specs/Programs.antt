-- The program of some directives, and the world with which it opens.
use Rattle.std.specs.Prelude.{ℕ, ℤ, pos, Bool, List, [], ◌∷◌, map, replicate, Option, Some, None, codes, unwrap_or}
use Rattle.std.specs.Option.{option_and_then}
use Rattle.inform_tree.specs.declared.widths.Width.{Width}
use Rattle.inform_tree.specs.declared.values.Const.{Const}
use Rattle.inform_tree.specs.Programs as d
use Rattle.inform_tree.specs.Programs.{DirectiveTree}
use Rattle.inform_tree.specs.Statements.{Statements, NoStatements}
use Rattle.inform_names.specs.declared.meanings.Meaning.{Meaning}
use Rattle.inform_names.specs.Meanings.{Known, meanings, word_of_meaning, constant_word, entry_count, first_directive}
use Rattle.inform_meaning.specs.Worlds.{Routine, Program, Scope, World, Config, kept}
use Rattle.inform_meaning.specs.Frames.{Outcome}
use Rattle.inform_meaning.specs.Runs.{main_begun, resume}

-- ---- directives

abbrev pub routine_in : ℕ → DirectiveTree → Option Routine
routine_in at (d.Routine r) = Some (record { directive = at; locals = r.locals; body = r.body })
routine_in at other = None

-- the word with which a directive's global begins
abbrev pub global_in : Width → Known → DirectiveTree → Option ℤ
global_in width known (d.Global name None) = Some (pos 0)
global_in width known (d.Global name (Some x)) =
    Some (unwrap_or (constant_word width known x) (pos 0))
global_in width known other = None

-- one constant alone is the number of entries, which are 0
abbrev pub entries_in : Width → Known → Bool → List Const → List ℤ
entries_in width known words (x ∷ []) =
    replicate (entry_count (constant_word width known x)) (pos 0)
entries_in width known words xs =
    map (λ x. kept words (unwrap_or (constant_word width known x) (pos 0))) xs

abbrev pub array_in : Width → Known → DirectiveTree → Option (List ℤ)
array_in width known (d.Array name words xs) = Some (entries_in width known words xs)
array_in width known other = None

-- ---- a program

-- the number of the first directive of a name
abbrev pub number_of : Option Meaning → ℕ
number_of None = 0
number_of (Some m) = m.at

abbrev pub routine_named : Width → List DirectiveTree → List ℕ → Option Routine
routine_named width ds name = option_and_then (routine_in (number_of (meanings width ds name)))
    (first_directive width ds name)

-- no routine is noted
abbrev pub no_notes : List ℕ → ℕ → Option ℕ
no_notes name directive = None

abbrev pub program_in : Width → List DirectiveTree → (List ℕ → ℕ → Option ℕ) → Program
program_in width ds notes = record {
  width = width;
  constants = λ name. word_of_meaning (meanings width ds name);
  routines = routine_named width ds;
  notes = notes;
}

-- ---- the world at the beginning, in `Main`

abbrev pub body_of : Option Routine → Statements
body_of None = NoStatements
body_of (Some r) = r.body

abbrev pub main_scope : Option Routine → Scope
main_scope None = record { directive = 0; locals = [] }
main_scope (Some r) = record { directive = r.directive; locals = [] }

abbrev pub opening_world : Width → List DirectiveTree → Option Routine → World
opening_world width ds main = record {
  globals = λ name. option_and_then (global_in width (meanings width ds))
      (first_directive width ds name);
  arrays = λ name. option_and_then (array_in width (meanings width ds))
      (first_directive width ds name);
  scope = main_scope main;
}

abbrev pub opening : Width → List DirectiveTree → ℕ → List (List ℕ) → List ℕ → Config
opening width ds steps lines draws = record {
  steps = steps;
  lines = lines;
  draws = draws;
  past = [];
  world = opening_world width ds (routine_named width ds (codes "main"));
}

-- ---- a whole run

-- `Main` from the beginning
abbrev pub run_of : Width → List DirectiveTree → (List ℕ → ℕ → Option ℕ) → ℕ → List (List ℕ)
    → List ℕ → Outcome × Config
run_of width ds notes steps lines draws =
    resume (program_in width ds notes)
    (main_begun (body_of (routine_named width ds (codes "main"))))
    (opening width ds steps lines draws)
