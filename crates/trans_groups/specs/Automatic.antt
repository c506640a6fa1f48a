-- The automatic step: each group of verb 0 has its chance.
use Rattle.std.specs.Prelude.{ℕ, ◌==◌, List, [], ◌∷◌, codes, if◌then◌else◌}
use Rattle.inform_tree.specs.declared.conditions.Relation.TheVariants.{Le}
use Rattle.inform_tree.specs.Values as v
use Rattle.inform_tree.specs.Conditions as c
use Rattle.inform_tree.specs.Statements as s
use Rattle.inform_tree.specs.Statements.{Statement, statements}
use Rattle.inform_tree.specs.Programs.{RoutineTree, DirectiveTree, Routine}
use Rattle.scott_types.specs.Database.{Database}
use Rattle.scott_types.specs.Action.{verb_of, noun_of}
use Rattle.scott_rules.specs.Groups.{Group, groups}
use Rattle.trans_specs.specs.Names.{group_name}
use Rattle.trans_specs.specs.Lines.{call_statement}

-- `if (random(100) <= N) group_k();`
abbrev pub chance : ℕ → ℕ → Statement
chance noun head = s.If (c.Compare Le (v.Random (v.Number 100)) (v.Number noun))
    (statements (call_statement (group_name head) [] ∷ [])) s.NoStatements

-- the heads of verb 0, in order
abbrev pub chances : List Group → List Statement
chances [] = []
chances (g ∷ gs) = if verb_of g.vocab == 0 then chance (noun_of g.vocab) g.head ∷ chances gs
    else chances gs

-- no noun was typed
abbrev pub forget_noun : Statement
forget_noun = s.Assign (s.Set (codes "nb") (v.Number 0))

abbrev pub automatic_routine : List Group → RoutineTree
automatic_routine gs = record {
  name = codes "automatic";
  locals = [];
  body = statements (forget_noun ∷ chances gs);
}

abbrev pub automatic_directives : Database → List DirectiveTree
automatic_directives db = Routine (automatic_routine (groups db)) ∷ []
