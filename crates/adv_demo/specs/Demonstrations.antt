-- What is said of the game of a number.
use Rattle.std.specs.Prelude.{ℕ, ◌≡◌, ◌-◌, List, [], ◌++◌, length, None, Result, Ok, Err}
use Rattle.adv_draws.specs.Seeded.{seeded_draws}
use Rattle.adv_gen.specs.Made as made
use Rattle.inform_meaning.specs.Frames.{Outcome}
use Rattle.inform_meaning.specs.Programs.{no_notes, run_of}
use Rattle.inform_meaning.specs.Worlds.{Config}
use Rattle.inform_reader.specs.Reading.{Fault, program_in}
use Rattle.inform_tree.specs.declared.widths.Width.TheVariants.{W16}
use Rattle.inform_tree.specs.Programs.{DirectiveTree}
use Rattle.scott_rules.specs.Play.{play}
use Rattle.scott_types.specs.Database.{Database}
use Rattle.scott_types.specs.Style.{plain, plain_style}
use Rattle.trans_specs.specs.Steps.{enough}
use Rattle.translator.specs.Faithful.{Faithful}
use Rattle.adv_demo.specs.Summaries.{play_summary, run_summary}
use Rattle.adv_demo.specs.Texts.{size_line, play_line, run_line}

-- ---- a game, of which these lines are typed and these draws drawn

-- the line of its play
unfoldable pub played : Database → List (List ℕ) → List ℕ → List ℕ
played db lines draws = play_line (play_summary (play (plain db) lines draws))

-- the run of a program with the steps that are enough
abbrev pub steps_given : Database → List (List ℕ) → ℕ
steps_given db lines = enough db (length lines)

unfoldable pub run_with_enough : Database → List (List ℕ) → List ℕ → List DirectiveTree
    → Outcome × Config
run_with_enough db lines draws program =
    run_of W16 program no_notes (steps_given db lines) lines draws

-- the steps that it used: those given less those left
abbrev pub steps_used : Database → List (List ℕ) → Outcome × Config → ℕ
steps_used db lines t = steps_given db lines - t.1.steps

-- the line of a run
abbrev pub ran : Database → List (List ℕ) → Outcome × Config → List ℕ
ran db lines t = run_line (run_summary t) (steps_used db lines t)

-- the line of the run of the program of a text; a text of no program has none
abbrev pub ran_of : Database → List (List ℕ) → List ℕ → Result (List DirectiveTree) Fault → List ℕ
ran_of db lines draws (Ok program) = ran db lines (run_with_enough db lines draws program)
ran_of db lines draws (Err fault) = []

-- the three lines, by the text of its translation
abbrev pub text_of : ℕ → Database → List (List ℕ) → List ℕ → List ℕ → List ℕ
text_of n db lines draws out =
    size_line n db ++ (played db lines draws ++ ran_of db lines draws (program_in W16 out))

-- this is said of the game of that number, by a text that is faithful to it
pub record Demonstrates (n : ℕ) (db : Database) (lines : List (List ℕ)) (draws text : List ℕ)
    : Type 0 where
  pub out : List ℕ
  pub faithful : Faithful plain_style W16 db None out
  pub text_is : text ≡ text_of n db lines draws out

-- ---- the game that is made of a number, with the draws of the same seed

-- the three lines, by the text of its translation
abbrev pub demo_text : ℕ → List ℕ → List ℕ
demo_text n out = text_of n (made.database n) (made.lines n) (seeded_draws n) out

-- this is said of it, by a text that is faithful to it
abbrev pub IsDemonstration : ℕ → List ℕ → Type 0
IsDemonstration n text = Demonstrates n (made.database n) (made.lines n) (seeded_draws n) text
