-- The runs of the program of a game are its plays.
use Rattle.std.proofs.Common.{◌≡◌, ◌∙◌, arith, ℕ, zero, suc, ◌+◌, ◌<◌, List, [], ◌∷◌, ◌++◌, length, Option, Some, None, refl, sym, subst}
use Rattle.adv_io.specs.Steps.{Step, Traced}
use Rattle.inform_tree.specs.declared.widths.Width.{Width}
use Rattle.inform_tree.specs.Programs.{DirectiveTree}
use Rattle.inform_meaning.specs.Worlds.{Program, Config}
use Rattle.inform_meaning.specs.Frames.{Outcome}
use Rattle.inform_meaning.specs.Programs.{no_notes, program_in, run_of}
use Rattle.inform_logic.specs.Holding.{Holds, Distinct}
use Rattle.inform_logic.specs.Laws.{ProgramHolds, SameButNotes, NotesCountForNothing}
use Rattle.inform_logic.proofs.Holding.{holds_first, holds_rest}
use Rattle.inform_entered.specs.Laws.{EnteredAreNoted}
use Rattle.scott_types.specs.declared.states.State.{State}
use Rattle.scott_types.specs.declared.styles.Style.{Style}
use Rattle.scott_types.specs.Database.{Database}
use Rattle.scott_types.specs.State.{Fits}
use Rattle.scott_types.specs.Style.{in_style}
use Rattle.scott_rules.specs.Play.{PlayEnd, go}
use Rattle.trans_specs.specs.Names.{message_name, line_number, line_notes}
use Rattle.trans_specs.specs.Directives.{data_directives}
use Rattle.trans_specs.specs.Programs.{HasRoutine, Serves}
use Rattle.trans_specs.specs.ActionSpecs.{LineSpec}
use Rattle.trans_specs.specs.TurnSpecs.{MainSpec}
use Rattle.trans_specs.specs.Meeting.{Translates}
use Rattle.trans_specs.specs.Same.{Same}
use Rattle.trans_specs.specs.Faithful.{opening_state, opening_position, AlwaysAlike}
use Rattle.trans_specs.specs.Wholes.{NotedAlike, MainIsEnough}
use Rattle.trans_data.specs.Routines.{fixed_directives}
use Rattle.trans_data.specs.Laws.{HelpersMeetSpecs, DataMeetsSpecs}
use Rattle.trans_data.specs.Texts.{message_directives, spoken_directives, text_directives}
use Rattle.trans_words.specs.Directives.{word_directives}
use Rattle.trans_words.specs.Laws.{LinesAreHeard}
use Rattle.trans_actions.specs.Directives.{action_directives}
use Rattle.trans_actions.specs.Laws.{HasMessages, LinesMeetSpecs}
use Rattle.trans_turn.specs.Routines.{turn_directives}
use Rattle.trans_turn.specs.RoundSpecs.{IsOpening, TurnMeetsSpecs}
use Rattle.trans_programs.specs.Programs.{playing_routines, game_routines, game_program}
use Rattle.trans_programs.specs.Laws.{ProgramsAreDistinct, ProgramsAreAccepted, ProgramsAreShaped}
use Rattle.translator.specs.Laws.{ProgramsAreFaithful}

-- ---- what a program holds, by parts

both_hold : (p : Program) (xs ys : List DirectiveTree) → Holds p xs → Holds p ys
    → Holds p (xs ++ ys)
both_hold p [] ys h k = k
both_hold p (x ∷ xs) ys h k = (h.0, both_hold p xs ys h.1 k)

-- each message has its routine
message_held : (p : Program) (n : ℕ) (texts : List (List ℕ)) → Holds p (message_directives n texts)
    → (i : ℕ) → i < length texts → HasRoutine p (message_name (n + i))
message_held p n [] h i less = absurd (omega (arith, less))
message_held p n (text ∷ texts) h zero less = let at : n ≡ n + 0 = omega arith in
    subst (λ n. HasRoutine p (message_name n)) at (_, h.0.1)
message_held p n (text ∷ texts) h (suc i) less = let at : n + 1 + i ≡ n + suc i = omega arith in
    subst (λ n. HasRoutine p (message_name n)) at
    (message_held p (n + 1) texts h.1 i (omega (arith, less)))

-- a game opens where a round begins, or after a prompt
opens : (from : Option State) → IsOpening (opening_position from)
opens None = tt
opens (Some s) = tt

-- ---- without notes

-- the same run without what is noted is the play too
without_notes : (play : Traced Step PlayEnd) (r r' : Outcome × Config) → SameButNotes r r'
    → Same play r → Same play r'
without_notes play r r' alike same = subst (Same play) (sym alike.is) (record {
  traces = same.traces ∙ sym alike.same;
  ends = same.ends;
  shows = record {
    room_is = same.shows.room_is;
    saved_is = same.shows.saved_is;
    counter_is = same.shows.counter_is;
    light_is = same.shows.light_is;
    mark_is = same.shows.mark_is;
    guard = same.shows.guard;
    places_are = same.shows.places_are;
    flags_are = same.shows.flags_are;
    counters_are = same.shows.counters_are;
    rooms_are = same.shows.rooms_are;
  };
})

-- ---- all of it

module _ (holds : ProgramHolds) (notes : NotesCountForNothing) (entries : EnteredAreNoted)
    (main : MainIsEnough) (texts : DataMeetsSpecs) (helpers : HelpersMeetSpecs) (lines_law : LinesMeetSpecs)
    (turns : TurnMeetsSpecs) (words : LinesAreHeard) (distinct : ProgramsAreDistinct)
    (style : Style) (width : Width) (db : Database) (from : Option State)
    (translates : Translates width db) (fits : Fits db (opening_state db from)) where
  abbrev ds : List DirectiveTree
  ds = game_program style db from

  abbrev p : Program
  p = program_in width ds line_notes

  apart : Distinct ds
  apart = distinct style db from translates.limits

  serves : (xs : List DirectiveTree) → Holds p xs → Serves width xs p
  serves xs h = record { width_is = refl; holds = h; notes_lines = λ name at. refl }

  abbrev reading : List DirectiveTree
  reading = word_directives db ++ playing_routines style db from

  abbrev turning : List DirectiveTree
  turning = turn_directives style db (opening_position from)

  of_routines : Holds p (game_routines style db from)
  of_routines = holds_rest p (data_directives db (opening_state db from))
      (game_routines style db from) (holds width ds line_notes apart)

  of_texts : Holds p (text_directives style db)
  of_texts = holds_first p (text_directives style db) reading of_routines

  of_reading : Holds p reading
  of_reading = holds_rest p (text_directives style db) reading of_routines

  of_words : Holds p (word_directives db)
  of_words = holds_first p (word_directives db) (playing_routines style db from) of_reading

  of_playing : Holds p (playing_routines style db from)
  of_playing = holds_rest p (word_directives db) (playing_routines style db from) of_reading

  of_lines : Holds p (action_directives style db)
  of_lines = holds_first p (action_directives style db) turning of_playing

  of_turn : Holds p turning
  of_turn = holds_rest p (action_directives style db) turning of_playing

  has_messages : HasMessages db p
  has_messages m less = let at : 0 + m ≡ m = omega arith in
      subst (λ n. HasRoutine p (message_name n)) at (message_held p 0 db.messages
      (holds_rest p (fixed_directives style db) (spoken_directives style db) of_texts).1.1 m less)

  lines_do : LineSpec (in_style style db) p
  lines_do = let said = serves (text_directives style db) of_texts in
      lines_law style width db p translates (serves (action_directives style db) of_lines)
      (helpers style width db p translates said) (texts style width db p translates said)
      has_messages

  main_does : MainSpec (in_style style db) p (opening_position from)
  main_does = (turns style width db (opening_position from) (opens from) p translates
      (serves (text_directives style db ++ turning)
      (both_hold p (text_directives style db) turning of_texts of_turn)) lines_do
      (words db p width translates.limits (serves (word_directives db) of_words))).all_rounds

  -- the run of the program is the play, for all typed lines and draws, with steps that are enough
  pub always_alike : AlwaysAlike style width db from ds
  always_alike lines draws steps typed fair enough = let
      noted : NotedAlike width ds steps lines draws
      (go (in_style style db) (opening_position from) (opening_state db from) lines draws) =
      main style width db from (game_routines style db from) translates fits apart main_does lines
      draws steps typed fair enough in
      record {
        same = without_notes
            (go (in_style style db) (opening_position from) (opening_state db from) lines draws)
            (run_of width ds line_notes steps lines draws)
            (run_of width ds no_notes steps lines draws)
            (notes width ds line_notes no_notes steps lines draws) noted.same;
        same_lines = noted.same_lines ∙ entries width ds line_number steps lines draws;
      }

pub programs_are_faithful : ProgramHolds → NotesCountForNothing → EnteredAreNoted → MainIsEnough
    → DataMeetsSpecs → HelpersMeetSpecs → LinesMeetSpecs → TurnMeetsSpecs → LinesAreHeard → ProgramsAreDistinct
    → ProgramsAreAccepted → ProgramsAreShaped → ProgramsAreFaithful
programs_are_faithful holds notes entries main texts helpers lines turns words distinct accepted
    shaped style width db from translates fits = record {
      accepted = accepted style width db from translates fits;
      shaped = shaped style db from translates.limits;
      alike = always_alike holds notes entries main texts helpers lines turns words distinct style
          width db from translates fits;
    }
