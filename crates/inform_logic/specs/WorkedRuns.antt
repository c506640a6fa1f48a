-- A worked program, and what its runs do.
use Rattle.std.specs.Prelude.{ℕ, ◌≤◌, false, List, [], ◌∷◌, codes}
use Rattle.inform_tree.specs.declared.widths.Width.{Width}
use Rattle.inform_tree.specs.declared.values.Const.{Const}
use Rattle.inform_tree.specs.declared.values.Const.TheVariants.{Number}
use Rattle.inform_tree.specs.Values as v
use Rattle.inform_tree.specs.Values.{arguments}
use Rattle.inform_tree.specs.Statements.{Call, statements}
use Rattle.inform_tree.specs.Programs.{RoutineTree, DirectiveTree, Array, Routine}
use Rattle.inform_names.specs.Meanings.{meanings}
use Rattle.inform_meaning.specs.Frames.{Quits, NeedsLine}
use Rattle.inform_meaning.specs.Runs.{Halted, Lacking}
use Rattle.inform_meaning.specs.Programs.{no_notes, entries_in, run_of}
use Rattle.inform_logic.specs.Stages.{line_taken}
use Rattle.inform_logic.specs.Holding.{opening_stage}
use Rattle.inform_logic.specs.Stopping.{Stopped}
use Rattle.inform_logic.specs.Worked.{ask}

-- ---- `Array buf -> 3 0 0 0 0; Array pbuf -> 1; [ ask n; read buf pbuf; quit; ];
-- [ Main; ask(7); ];`

abbrev pub buffer : List Const
buffer = Number 3 ∷ Number 0 ∷ Number 0 ∷ Number 0 ∷ Number 0 ∷ []

abbrev pub main : RoutineTree
main = record {
  name = codes "main";
  locals = [];
  body = statements (Call (codes "ask") (arguments (v.Number 7 ∷ [])) ∷ []);
}

abbrev pub asking : List DirectiveTree
asking = Array (codes "buf") false buffer ∷ Array (codes "pbuf") false (Number 1 ∷ [])
    ∷ Routine ask ∷ Routine main ∷ []

-- With a line and four steps the run takes the line and is over.
abbrev pub RunIsOver : Type 0
RunIsOver = (width : Width) (line : List ℕ) (lines : List (List ℕ)) (draws : List ℕ) (steps : ℕ)
    → 4 ≤ steps → Stopped (run_of width asking no_notes steps (line ∷ lines) draws) (Halted Quits)
    (line_taken (codes "buf") (entries_in width (meanings width asking) false buffer) line lines
    (opening_stage width asking lines draws))

-- Without one it waits for it.
abbrev pub RunWaits : Type 0
RunWaits = (width : Width) (draws : List ℕ) (steps : ℕ) → 3 ≤ steps
    → Stopped (run_of width asking no_notes steps [] draws) (Lacking NeedsLine)
    (opening_stage width asking [] draws)
