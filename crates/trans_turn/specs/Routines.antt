-- The directives of the routines of a round, as they are written.
use Rattle.std.specs.Prelude.{ℕ, List, [], ◌∷◌, ◌++◌, map}
use Rattle.inform_tree.specs.Programs.{DirectiveTree}
use Rattle.inform_codes.specs.Routines.{rows_directives}
use Rattle.scott_types.specs.declared.phrases.Phrase.TheVariants.{Prompt, UnknownOpening, UnknownBack}
use Rattle.scott_types.specs.declared.endings.Position.{Position}
use Rattle.scott_types.specs.declared.endings.Position.TheVariants.{Line}
use Rattle.scott_types.specs.declared.styles.Style.{Style}
use Rattle.scott_types.specs.Phrase.{text_of}
use Rattle.scott_types.specs.Database.{Database}
use Rattle.trans_commands.specs.Directives.{command_directives}
use Rattle.trans_groups.specs.Trying.{trying_directives}
use Rattle.trans_turn.specs.declared.names.TheConstants.{NAMES}
use Rattle.trans_turn.specs.declared.codes.TheConstants.{ROUNDS}

-- the names, and then the texts
abbrev pub turn_names : List (List ℕ)
turn_names = map (λ n. n.now) NAMES
    ++ text_of Prompt ∷ text_of UnknownOpening ∷ text_of UnknownBack ∷ []

-- what the first round is told: 1 where the prompt was said
abbrev pub first_asked : Position → ℕ
first_asked Line = 1
first_asked _ = 0

-- a round and all rounds, the first of which is told this number
unfoldable pub rounds_asking : ℕ → List DirectiveTree
rounds_asking asked = rows_directives turn_names (asked ∷ [])
    (map (λ row. (row.0, row.1.now, row.2.now)) ROUNDS)

-- a round and all rounds, the first of which begins at this position
abbrev pub round_directives : Position → List DirectiveTree
round_directives begin = rounds_asking (first_asked begin)

-- ---- all of a turn

abbrev pub turn_directives : Style → Database → Position → List DirectiveTree
turn_directives style db begin =
    trying_directives db ++ (command_directives style db ++ round_directives begin)
