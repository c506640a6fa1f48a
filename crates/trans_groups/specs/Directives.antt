-- The routines of the groups of a game.
use Rattle.std.specs.Prelude.{ℕ, ◌+◌, ◌==◌, List, [], ◌∷◌, map, if◌then◌else◌}
use Rattle.inform_tree.specs.Statements.{statements}
use Rattle.inform_tree.specs.Programs.{RoutineTree, DirectiveTree, Routine}
use Rattle.scott_types.specs.declared.parts.Action.{Action}
use Rattle.scott_types.specs.Database.{Database}
use Rattle.scott_types.specs.Action.{is_zero_action}
use Rattle.scott_rules.specs.Actions.{goes_on_after}
use Rattle.scott_rules.specs.Groups.{groups}
use Rattle.trans_specs.specs.Names.{group_name}
use Rattle.trans_specs.specs.Lines.{group_parts, group_routine}

-- one for each group
abbrev pub group_directives : Database → List DirectiveTree
group_directives db = map (λ g. Routine (group_routine db g)) (groups db)

-- ---- the same, line by line

-- the lines up to the next head that aren't all zeros, numbered from k on
abbrev pub tried_from : ℕ → List Action → List ℕ
tried_from k [] = []
tried_from k (a ∷ actions) =
    if a.vocab == 0 then
    if is_zero_action a then tried_from (k + 1) actions else k ∷ tried_from (k + 1) actions
    else []

-- the routine of a head by its number, where these lines are its tail
abbrev pub routine_of_head : ℕ → Action → List ℕ → RoutineTree
routine_of_head k a tail =
    let parts = group_parts (goes_on_after a) k tail in
    record { name = group_name k; locals = parts.0; body = statements parts.1 }

-- of each head from number k on
abbrev pub heads_from : ℕ → List Action → List DirectiveTree
heads_from k [] = []
heads_from k (a ∷ actions) =
    if a.vocab == 0 then heads_from (k + 1) actions
    else Routine (routine_of_head k a (tried_from (k + 1) actions)) ∷ heads_from (k + 1) actions
