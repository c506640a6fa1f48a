-- What the words of the command line ask for.
use Rattle.std.specs.Prelude.{ℕ, ◌≤◌, nat_le, true, ◌&&◌, List, [], ◌∷◌, map, String, string_bytes, Option, Some, None, option_map, unwrap_or, bytes_eq, codes, if◌then◌else◌}
use Rattle.std.specs.Option.{option_and_then}
use Rattle.scott_requests.specs.declared.settings.Kinds.{Kinds}
use Rattle.scott_requests.specs.declared.requests.TheConstants.{MOST_SESSIONS, FIRST_GAME, LAST_GAME}
use Rattle.scott_requests.specs.declared.settings.TheConstants.{FIRST_SEED, USUAL_STEPS}
use Rattle.inform_tree.specs.declared.widths.Width.{Width}
use Rattle.inform_tree.specs.declared.widths.Width.TheVariants.{W16}
use Rattle.scott_types.specs.declared.styles.Style.{Style}
use Rattle.scott_types.specs.Style.{plain_style}
use Rattle.scott_requests.specs.Parts.{file_name, number_of}
use Rattle.scott_requests.specs.Settings.{DrawSource, seeded, AreSteps, Pause, PauseFits, Settings, no_kinds, no_settings, settings_from}

-- what is to be played: the database of this name, with these draws, in this style; from its
-- beginning, or from the position in a file; and the file in which the position is kept where the
-- play stops, if there is one
pub record PlayRequest : Type 0 where
  pub game : List ℕ
  pub source : DrawSource
  pub style : Style
  pub opened_from : Option (List ℕ)
  pub saved_as : Option (List ℕ)

-- what is to be translated: the database of the first name, into an Inform program under the
-- second, in this style and for words of this width
pub record TranslationRequest : Type 0 where
  pub game : List ℕ
  pub program : List ℕ
  pub style : Style
  pub width : Width

-- what is to be run: the Inform program of this name, with these draws, for so many steps at most,
-- with words of this width
pub record RunRequest : Type 0 where
  pub program : List ℕ
  pub source : DrawSource
  pub steps : ℕ
  pub width : Width

-- what is to be run step by step: it pauses there
pub record StepRequest : Type 0 where
  pub run : RunRequest
  pub pause : Pause

-- what is to be played, and then told which lines were tried: the database of this name, with
-- these draws, in this style
pub record CoverRequest : Type 0 where
  pub game : List ℕ
  pub source : DrawSource
  pub style : Style

-- what is to be translated so that it opens at the position in a file
pub record TransferRequest : Type 0 where
  pub opened_from : List ℕ
  pub translation : TranslationRequest

-- what is to be simplified: the Inform program of the first name, where words have this width; the
-- simpler one is stored under the second
pub record SimplifyRequest : Type 0 where
  pub program : List ℕ
  pub simpler : List ℕ
  pub width : Width

-- the database of this name is to be checked; a source is to be compiled to a database, or a
-- database decompiled to a source, from the file of the first name to that of the second; a
-- database is to be played or translated, or a program run; so many sessions of a database are to
-- be played from one list of lines; a database is to be translated as it stands at a position; a
-- program is to be simplified; or run step by step; a database is to be played, and then told which
-- of its lines were tried; a program is to be run, and then told which of a game's lines it
-- entered; or the game of this number is to be shown
pub data Request : Type 0 where
  check : List ℕ → Request
  compile : List ℕ → List ℕ → Request
  decompile : List ℕ → List ℕ → Request
  play : PlayRequest → Request
  translate : TranslationRequest → Request
  run : RunRequest → Request
  hall : List ℕ → ℕ → Request
  transfer : TransferRequest → Request
  simplify : SimplifyRequest → Request
  step : StepRequest → Request
  cover : CoverRequest → Request
  calls : RunRequest → Request
  demo : ℕ → Request

-- ---- the forms of the commands: what the words after a command ask for

-- one file
abbrev pub check_form : List (List ℕ) → Option Request
check_form (game ∷ []) = option_map check (file_name game)
check_form _ = None

-- two files, from the first of which the second is made
abbrev pub two_names : List (List ℕ) → Option (List ℕ × List ℕ)
two_names (from ∷ to ∷ []) =
    option_and_then (λ first. option_map (λ second. (first, second)) (file_name to))
    (file_name from)
two_names _ = None

abbrev pub compile_form : List (List ℕ) → Option Request
compile_form words = option_map (λ names. compile names.0 names.1) (two_names words)

abbrev pub decompile_form : List (List ℕ) → Option Request
decompile_form words = option_map (λ names. decompile names.0 names.1) (two_names words)

-- one file, and the settings after it, where all are of these kinds
abbrev pub file_and_settings : Kinds → List (List ℕ) → Option (List ℕ × Settings)
file_and_settings kinds [] = None
file_and_settings kinds (file ∷ words) =
    option_and_then
    (λ name. option_map (λ settings. (name, settings)) (settings_from kinds no_settings words))
    (file_name file)

-- where the draws come from
abbrev pub source_in : Settings → DrawSource
source_in settings = unwrap_or settings.source (seeded FIRST_SEED)

-- in which style
abbrev pub style_in : Settings → Style
style_in settings = unwrap_or settings.play_style plain_style

-- how wide words are
abbrev pub width_in : Settings → Width
width_in settings = unwrap_or settings.width W16

-- for how many steps at most
abbrev pub steps_in : Settings → ℕ
steps_in settings = unwrap_or settings.steps USUAL_STEPS

-- a play is given draws, a style, and the files of positions
abbrev pub play_kinds : Kinds
play_kinds = record no_kinds { draws = true; style = true; opening = true; saving = true }

abbrev pub play_of : List ℕ → Settings → PlayRequest
play_of name settings =
    record {
      game = name;
      source = source_in settings;
      style = style_in settings;
      opened_from = settings.opened_from;
      saved_as = settings.saved_as;
    }

abbrev pub play_form : List (List ℕ) → Option Request
play_form words = option_map (λ p. play (play_of p.0 p.1)) (file_and_settings play_kinds words)

-- a play of which it is told what was tried is given draws and a style
abbrev pub cover_kinds : Kinds
cover_kinds = record no_kinds { draws = true; style = true }

abbrev pub cover_of : List ℕ → Settings → CoverRequest
cover_of name settings =
    record { game = name; source = source_in settings; style = style_in settings }

abbrev pub cover_form : List (List ℕ) → Option Request
cover_form words =
    option_map (λ p. cover (cover_of p.0 p.1)) (file_and_settings cover_kinds words)

-- two files, and the settings after them
abbrev pub files_and_settings : Kinds → List (List ℕ) → Option (List ℕ × List ℕ × Settings)
files_and_settings kinds [] = None
files_and_settings kinds (file ∷ words) =
    option_and_then
    (λ first. option_map (λ p. (first, p.0, p.1)) (file_and_settings kinds words))
    (file_name file)

-- a translation is given a style and a width
abbrev pub translation_kinds : Kinds
translation_kinds = record no_kinds { style = true; words = true }

abbrev pub translation_of : List ℕ → List ℕ → Settings → TranslationRequest
translation_of game program settings =
    record {
      game = game;
      program = program;
      style = style_in settings;
      width = width_in settings;
    }

abbrev pub translate_form : List (List ℕ) → Option Request
translate_form words =
    option_map (λ p. translate (translation_of p.0 p.1 p.2))
    (files_and_settings translation_kinds words)

-- three files, of which the second has the position, and the settings of a translation
abbrev pub transfer_of : List ℕ → List ℕ → List ℕ → Settings → TransferRequest
transfer_of game position program settings =
    record { opened_from = position; translation = translation_of game program settings }

abbrev pub three_and_settings : Kinds → List (List ℕ)
    → Option (List ℕ × List ℕ × List ℕ × Settings)
three_and_settings kinds [] = None
three_and_settings kinds (file ∷ words) =
    option_and_then
    (λ first. option_map (λ p. (first, p.0, p.1, p.2)) (files_and_settings kinds words))
    (file_name file)

abbrev pub transfer_form : List (List ℕ) → Option Request
transfer_form words =
    option_map (λ p. transfer (transfer_of p.0 p.1 p.2 p.3))
    (three_and_settings translation_kinds words)

-- a run is given draws, a number of steps and a width
abbrev pub run_kinds : Kinds
run_kinds = record no_kinds { draws = true; steps = true; words = true }

abbrev pub run_of : List ℕ → Settings → RunRequest
run_of name settings =
    record {
      program = name;
      source = source_in settings;
      steps = steps_in settings;
      width = width_in settings;
    }

abbrev pub run_form : List (List ℕ) → Option Request
run_form words = option_map (λ p. run (run_of p.0 p.1)) (file_and_settings run_kinds words)

-- a run that goes on step by step is given the same, and where it pauses
abbrev pub step_kinds : Kinds
step_kinds = record run_kinds { pauses = true }

abbrev pub step_of : List ℕ → Settings → Pause → StepRequest
step_of name settings pause = record { run = run_of name settings; pause = pause }

abbrev pub step_form : List (List ℕ) → Option Request
step_form words =
    option_and_then (λ p. option_map (λ pause. step (step_of p.0 p.1 pause)) p.1.pause)
    (file_and_settings step_kinds words)

-- a run that counts what it enters is given the same
abbrev pub calls_form : List (List ℕ) → Option Request
calls_form words = option_map (λ p. calls (run_of p.0 p.1)) (file_and_settings run_kinds words)

-- two files, from the first of which the second is made where words have this width
abbrev pub simplify_kinds : Kinds
simplify_kinds = record no_kinds { words = true }

abbrev pub simplification_of : List ℕ → List ℕ → Settings → SimplifyRequest
simplification_of program simpler settings =
    record { program = program; simpler = simpler; width = width_in settings }

abbrev pub simplify_form : List (List ℕ) → Option Request
simplify_form words =
    option_map (λ p. simplify (simplification_of p.0 p.1 p.2))
    (files_and_settings simplify_kinds words)

-- how many sessions: 1 at least, and no more than a hall has
abbrev pub sessions_of : List ℕ → Option ℕ
sessions_of digits =
    option_and_then (λ n. if nat_le 1 n && nat_le n MOST_SESSIONS then Some n else None)
    (number_of digits)

-- one file, and a number of sessions
abbrev pub hall_form : List (List ℕ) → Option Request
hall_form (game ∷ count ∷ []) =
    option_and_then (λ name. option_map (λ n. hall name n) (sessions_of count)) (file_name game)
hall_form _ = None

-- a number of which a game is made
abbrev pub game_number : List ℕ → Option ℕ
game_number digits =
    option_and_then (λ n. if nat_le FIRST_GAME n && nat_le n LAST_GAME then Some n else None)
    (number_of digits)

-- such a number alone
abbrev pub demo_form : List (List ℕ) → Option Request
demo_form (number ∷ []) = option_map demo (game_number number)
demo_form _ = None

-- ---- requests

-- the sessions that a hall is asked for are as many as it may have, the steps of a run that pauses
-- as many as may be given, and the number of a game is one of those that have one
abbrev pub IsSized : Request → Type 0
IsSized (hall game count) = (1 ≤ count) × (count ≤ MOST_SESSIONS)
IsSized (step s) = AreSteps s.run.steps × PauseFits s.pause
IsSized (demo n) = (FIRST_GAME ≤ n) × (n ≤ LAST_GAME)
IsSized _ = Unit {0}

-- the commands beside those that read, write and play one file: their forms
abbrev pub further_form : List ℕ → List (List ℕ) → Option Request
further_form command words =
    if bytes_eq command (codes "hall") then hall_form words else
    if bytes_eq command (codes "transfer") then transfer_form words else
    if bytes_eq command (codes "simplify") then simplify_form words else
    if bytes_eq command (codes "step") then step_form words else
    if bytes_eq command (codes "cover") then cover_form words else
    if bytes_eq command (codes "calls") then calls_form words else
    if bytes_eq command (codes "demo") then demo_form words else None

-- what words ask for: a command, and its form
abbrev pub request_in : List (List ℕ) → Option Request
request_in [] = None
request_in (command ∷ words) =
    if bytes_eq command (codes "check") then check_form words else
    if bytes_eq command (codes "compile") then compile_form words else
    if bytes_eq command (codes "decompile") then decompile_form words else
    if bytes_eq command (codes "play") then play_form words else
    if bytes_eq command (codes "translate") then translate_form words else
    if bytes_eq command (codes "run") then run_form words else further_form command words

-- the same of the program's words
abbrev pub asked_by : {Z : Type 0} → List (String Z) → Option Request
asked_by words = request_in (map string_bytes words)
