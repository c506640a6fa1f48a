-- All routines of a turn.
use Rattle.std.proofs.Common.{◌≡◌, ◌∙◌, List, ◌++◌, map, codes, refl}
use Rattle.inform_tree.specs.Programs.{DirectiveTree}
use Rattle.scott_types.specs.Style.{Game, in_style}
use Rattle.trans_specs.specs.DataSpecs.{DataSpecs}
use Rattle.trans_data.specs.Laws.{PartsAreServed, HelpersMeetSpecs, DataMeetsSpecs}
use Rattle.trans_data.specs.Texts.{text_directives}
use Rattle.trans_commands.specs.Directives.{command_directives}
use Rattle.trans_commands.specs.Laws.{CommandsMeetSpecs}
use Rattle.trans_groups.specs.Trying.{trying_directives}
use Rattle.trans_groups.specs.Laws.{TryingRows, TryingMeetsSpecs}
use Rattle.trans_turn.specs.Routines.{round_directives, turn_directives}
use Rattle.trans_turn.specs.RoundSpecs.{RoundsMeetSpecs, TurnMeetsSpecs}

-- those that try groups, then the commands, and then the rounds
pub turn_then : {X : Type 0} (f : X → DirectiveTree) (trying commands rounds : List DirectiveTree)
    (of_trying of_commands of_rounds playing all : List X) → map f of_trying ≡ trying
    → map f of_commands ≡ commands → map f of_rounds ≡ rounds
    → map f playing ≡ map f of_commands ++ map f of_rounds
    → map f all ≡ map f of_trying ++ map f playing → map f all ≡ trying ++ (commands ++ rounds)
turn_then f trying commands rounds of_trying of_commands of_rounds playing all h1 h2 h3 h4 h5 =
    h5 ∙ rw (h4, h1, h2, h3) refl

-- where a program serves the routines of a turn, and lines and words meet their specifications, so
-- do its rounds
pub turn_meets_specs : PartsAreServed → HelpersMeetSpecs → DataMeetsSpecs → TryingMeetsSpecs → CommandsMeetSpecs → RoundsMeetSpecs
    → TurnMeetsSpecs
turn_meets_specs parts helpers texts trying commands rounds style width db begin opening p translates
    serves lines reads = let
    game : Game = in_style style db in
    let said_by = parts width (text_directives style db)
    (turn_directives style db begin) p serves in
    let tried_by = parts width (trying_directives db)
    (command_directives style db ++ round_directives begin) p said_by.1 in
    let commanding = parts width (command_directives style db)
    (round_directives begin) p tried_by.1 in
    let said : DataSpecs game p (codes "look") (codes "inventory") (codes "score") (codes "burn") =
    texts style width db p translates said_by.0 in
    let tried : TryingRows game p = trying style width db p translates tried_by.0 lines in
    rounds width game begin p opening translates commanding.1 (record {
      looks = said.looks;
      reads = reads;
      commands = commands style width db p translates commanding.0
          (helpers style width db p translates said_by.0) tried.search;
      burns = said.burns;
      steps = tried.automatic;
    })
