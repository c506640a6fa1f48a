-- The search for the groups of a command: one case for each verb.
use Rattle.std.specs.Prelude.{ℕ, ◌==◌, ◌||◌, Bool, false, List, [], ◌∷◌, codes, if◌then◌else◌, Some, None}
use Rattle.inform_tree.specs.declared.conditions.Relation.TheVariants.{Eq}
use Rattle.inform_tree.specs.declared.values.Const.TheVariants.{Number}
use Rattle.inform_tree.specs.Values as v
use Rattle.inform_tree.specs.Conditions as c
use Rattle.inform_tree.specs.Statements as s
use Rattle.inform_tree.specs.Statements.{Statement, statements, Cases, NoCases, MoreCases}
use Rattle.inform_tree.specs.Programs.{RoutineTree, DirectiveTree, Routine}
use Rattle.scott_types.specs.Database.{Database}
use Rattle.scott_types.specs.Action.{verb_of, noun_of}
use Rattle.scott_rules.specs.Groups.{Group, groups}
use Rattle.trans_specs.specs.Names.{group_name}
use Rattle.trans_specs.specs.Lines.{call_value}

-- ---- a head, and then what comes after it

-- `if (group_k()) return 2;`
abbrev pub pass : ℕ → Statement
pass head = s.If (c.Nonzero (call_value (group_name head) []))
    (statements (s.Return (Some (v.Number 2)) ∷ [])) s.NoStatements

-- `m = 1;`: a head was there
abbrev pub mark : Statement
mark = s.Assign (s.Set (codes "m") (v.Number 1))

abbrev pub group_tries : ℕ → List Statement → List Statement
group_tries head after = pass head ∷ mark ∷ after

-- `if (n == N) { .. }`
abbrev pub for_noun : ℕ → ℕ → Statement
for_noun own head = s.If (c.Compare Eq (v.Name (codes "n")) (v.Number own))
    (statements (group_tries head [])) s.NoStatements

-- a head of noun 0 is for every noun and for none
abbrev pub head_tries : ℕ → ℕ → List Statement → List Statement
head_tries own head after =
    if own == 0 then group_tries head after else for_noun own head ∷ after

-- ---- a verb

-- its heads, in order
abbrev pub verb_tries : ℕ → List Group → List Statement
verb_tries verb [] = []
verb_tries verb (g ∷ gs) =
    if verb_of g.vocab == verb then head_tries (noun_of g.vocab) g.head (verb_tries verb gs)
    else verb_tries verb gs

abbrev pub has_verb : ℕ → List Group → Bool
has_verb verb [] = false
has_verb verb (g ∷ gs) = verb_of g.vocab == verb || has_verb verb gs

-- Each verb from 1 on has one case, in the place of its last head, with all of its heads.
abbrev pub verb_cases : List Group → List Group → Cases
verb_cases all [] = NoCases
verb_cases all (g ∷ gs) =
    let verb = verb_of g.vocab in
    if verb == 0 || has_verb verb gs then verb_cases all gs
    else MoreCases ((Number verb, None) ∷ []) (statements (verb_tries verb all))
    (verb_cases all gs)

-- ---- the routine: 0 for no head, 1 for one that didn't pass, 2 for one that did

abbrev pub search_routine : List Group → RoutineTree
search_routine gs = record {
  name = codes "search";
  locals = codes "v" ∷ codes "n" ∷ codes "m" ∷ [];
  body = statements (s.Switch (v.Name (codes "v")) (verb_cases gs gs) s.NoDefault
      ∷ s.Return (Some (v.Name (codes "m"))) ∷ []);
}

abbrev pub search_directives : Database → List DirectiveTree
search_directives db = Routine (search_routine (groups db)) ∷ []
