-- The stage of a run: all of a configuration but the steps that are left and the scope.
use Rattle.std.specs.Prelude.{ℕ, zero, suc, ℤ, List, [], ◌∷◌, ◌++◌, Option, Some, None}
use Rattle.adv_io.specs.Steps.{Step, Took, Drew, said_steps}
use Rattle.inform_meaning.specs.Tables.{updated, put}
use Rattle.inform_meaning.specs.Worlds.{Scope, World, Config, filled}

-- a sum that computes by its first part
abbrev pub plus : ℕ → ℕ → ℕ
plus zero k = k
plus (suc n) k = suc (plus n k)

-- the variables and arrays, what is left to take, and what happened so far
pub record Stage : Type 0 where
  pub globals : List ℕ → Option ℤ
  pub arrays : List ℕ → Option (List ℤ)
  pub lines : List (List ℕ)
  pub draws : List ℕ
  pub past : List Step

-- the world that a stage is in this scope
abbrev pub world_in : Scope → Stage → World
world_in s w = record { globals = w.globals; arrays = w.arrays; scope = s }

-- a configuration: a stage, with so many steps and in this scope
abbrev pub in_scope : ℕ → Scope → Stage → Config
in_scope steps s w = record {
  steps = steps;
  lines = w.lines;
  draws = w.draws;
  past = w.past;
  world = world_in s w;
}

-- the stage of a configuration
abbrev pub stage_of : Config → Stage
stage_of c = record {
  globals = c.world.globals;
  arrays = c.world.arrays;
  lines = c.lines;
  draws = c.draws;
  past = c.past;
}

-- ---- what changes a stage

-- another past
abbrev pub with_past : List Step → Stage → Stage
with_past past w = record w { past = past }

-- another value of a global
abbrev pub with_global : List ℕ → ℤ → Stage → Stage
with_global name v w = record w { globals = put w.globals name v }

-- other entries of an array
abbrev pub with_array : List ℕ → List ℤ → Stage → Stage
with_array name entries w = record w { arrays = put w.arrays name entries }

-- bytes were said
abbrev pub said : List ℕ → Stage → Stage
said bytes w = with_past (w.past ++ said_steps bytes) w

-- a line was taken into a buffer of these entries, and these lines are left
abbrev pub line_taken : List ℕ → List ℤ → List ℕ → List (List ℕ) → Stage → Stage
line_taken name entries line lines w = with_array name (filled entries line)
    (record w { lines = lines; past = w.past ++ Took line ∷ [] })

-- a draw was taken, and these draws are left
abbrev pub draw_taken : ℕ → List ℕ → Stage → Stage
draw_taken draw draws w = record w { draws = draws; past = w.past ++ Drew draw ∷ [] }

-- ---- a variable that has another value: the local where there is one, else the global

-- the scope and the stage, by the local of this name, if there is one
abbrev pub scope_after : Option ℤ → List ℕ → ℤ → Scope → Scope
scope_after None name v s = s
scope_after (Some old) name v s = record s { locals = updated name v s.locals }

abbrev pub stage_after : Option ℤ → List ℕ → ℤ → Stage → Stage
stage_after None name v w = with_global name v w
stage_after (Some old) name v w = w
