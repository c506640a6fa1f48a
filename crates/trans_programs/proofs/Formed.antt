-- The program of a game has a text.
use Rattle.std.proofs.Common.{◌≡◌, ◌∙◌, Bool, true, ◌&&◌, List, ◌++◌, Option, Some, None, refl}
use Rattle.std.proofs.lemmas.List.Folds.{list_all-append}
use Rattle.inform_tree.specs.Programs.{DirectiveTree}
use Rattle.inform_tree.specs.Formed.{is_formed_directive, is_well_formed}
use Rattle.inform_codes.specs.Grown.{body_of}
use Rattle.scott_types.specs.declared.states.State.{State}
use Rattle.scott_types.specs.declared.styles.Style.{Style}
use Rattle.scott_types.specs.Phrase.{text_of}
use Rattle.scott_types.specs.Database.{Database}
use Rattle.scott_types.specs.Limits.{KeepsLimits}
use Rattle.trans_specs.specs.Directives.{data_directives}
use Rattle.trans_specs.specs.Faithful.{opening_state, opening_position}
use Rattle.trans_data.specs.Laws.{TextsFormed, DataFormed}
use Rattle.trans_data.specs.Texts.{text_directives}
use Rattle.trans_words.specs.Laws.{ReaderIsFormed}
use Rattle.trans_words.specs.Directives.{word_directives}
use Rattle.trans_actions.specs.Directives.{action_directives}
use Rattle.trans_actions.specs.Laws.{ActionsFormed}
use Rattle.trans_groups.specs.Trying.{trying_directives}
use Rattle.trans_groups.specs.Laws.{TryingFormed}
use Rattle.trans_commands.specs.Laws.{CommandsFormed}
use Rattle.trans_commands.specs.Directives.{command_directives}
use Rattle.trans_turn.specs.Routines.{rounds_asking, round_directives, turn_directives}
use Rattle.trans_programs.specs.Programs.{playing_routines, game_routines}
use Rattle.trans_programs.specs.Laws.{ProgramsAreFormed}

pub both : (a b : Bool) → a ≡ true → b ≡ true → a && b ≡ true
both a b h k = rw (h, k) refl

formed_both : (xs ys : List DirectiveTree) → is_well_formed xs ≡ true
    → is_well_formed ys ≡ true → is_well_formed (xs ++ ys) ≡ true
formed_both xs ys h k = list_all-append is_formed_directive xs ys
    ∙ both (is_well_formed xs) (is_well_formed ys) h k

rounds_formed : (from : Option State)
    → is_well_formed (round_directives (opening_position from)) ≡ true
unfolding body_of text_of rounds_asking
rounds_formed None = refl
rounds_formed (Some s) = refl

module _ (tables : DataFormed) (texts : TextsFormed) (readers : ReaderIsFormed)
    (lines : ActionsFormed) (trying : TryingFormed) (commands : CommandsFormed) where
  -- all routines of a game are well formed, for a database that keeps its limits
  routines_formed : (style : Style) (db : Database) (from : Option State) → KeepsLimits db
      → is_well_formed (game_routines style db from) ≡ true
  routines_formed style db from limits = let begin = opening_position from in
      formed_both (text_directives style db)
      (word_directives db ++ playing_routines style db from) (texts style db limits)
      (formed_both (word_directives db) (playing_routines style db from) (readers db limits)
      (formed_both (action_directives style db) (turn_directives style db begin)
      (lines style db limits)
      (formed_both (trying_directives db) (command_directives style db ++ round_directives begin)
      (trying db limits)
      (formed_both (command_directives style db) (round_directives begin)
      (commands style db limits) (rounds_formed from)))))

  pub programs_are_formed : ProgramsAreFormed
  programs_are_formed style width db from translates fits = let s = opening_state db from in
      formed_both (data_directives db s) (game_routines style db from)
      (tables db s translates.limits fits) (routines_formed style db from translates.limits)
