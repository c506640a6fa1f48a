-- The routines of a table.
use Rattle.std.specs.Prelude.{ℕ, List, map}
use Rattle.inform_tree.specs.Programs as d
use Rattle.inform_tree.specs.Programs.{RoutineTree, DirectiveTree}
use Rattle.inform_codes.specs.declared.codes.Code.{Code}
use Rattle.inform_codes.specs.Codes.{name_in}
use Rattle.inform_codes.specs.Grown.{body_of}

-- a name, locals and codes, each name by its place
abbrev pub Row : Type 0
Row = ℕ × List ℕ × List Code

abbrev pub row_routine : List (List ℕ) → List ℕ → Row → RoutineTree
row_routine names given row = record {
  name = name_in names row.0;
  locals = map (name_in names) row.1;
  body = body_of names given row.2;
}

abbrev pub rows_directives : List (List ℕ) → List ℕ → List Row → List DirectiveTree
rows_directives names given rows = map (λ row. d.Routine (row_routine names given row)) rows
