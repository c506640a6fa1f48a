-- The laws of demonstrations.
use Rattle.std.specs.Prelude.{ℕ, ◌≡◌, ◌≤◌, List, [], ◌∷◌, ◌++◌, None, Ok, codes, decimal}
use Rattle.std.specs.List.{AllByRecursion}
use Rattle.adv_draws.specs.Run.{AllDraws}
use Rattle.adv_draws.specs.Seeded.{seeded_draws}
use Rattle.adv_gen.specs.Made as made
use Rattle.adv_io.specs.Text.{newline}
use Rattle.adv_io.specs.TypedLine.{IsTyped}
use Rattle.inform_reader.specs.Reading.{program_in}
use Rattle.inform_tree.specs.declared.widths.Width.TheVariants.{W16}
use Rattle.inform_tree.specs.Programs.{DirectiveTree}
use Rattle.scott_types.specs.Database.{Database}
use Rattle.scott_types.specs.Style.{plain_style}
use Rattle.trans_specs.specs.Wide.{wide_at}
use Rattle.translator.specs.Faithful.{Faithful}
use Rattle.adv_demo.specs.Demonstrations.{played, run_with_enough, steps_used, ran_of}

-- no number of a made game is too wide for words of 16 bits
abbrev pub MadeGamesAreNarrow : Type 0
MadeGamesAreNarrow = (n : ℕ) → 8 ≤ n → n ≤ 120 → wide_at W16 (made.database n) ≡ None

-- the lines of a made game are typed lines
abbrev pub MadeLinesAreTyped : Type 0
MadeLinesAreTyped = (n : ℕ) → 8 ≤ n → n ≤ 120 → AllByRecursion IsTyped (made.lines n)

-- ---- the run and the play

-- the line of the run is, after its first word, that of the play after its first word, and then
-- the number of steps that the run used
pub record TellsThePlay (db : Database) (lines : List (List ℕ)) (draws out : List ℕ) : Type 0 where
  pub program : List DirectiveTree
  pub read : program_in W16 out ≡ Ok program
  pub told : List ℕ
  pub of_play : played db lines draws ≡ codes "play: " ++ (told ++ newline ∷ [])
  pub of_run : ran_of db lines draws (program_in W16 out)
      ≡ codes "run: " ++ (told ++ (codes ", steps "
      ++ (decimal (steps_used db lines (run_with_enough db lines draws program)) ++ newline ∷ [])))

-- by a text that is faithful to a game
abbrev pub RunTellsThePlay : Type 0
RunTellsThePlay = (db : Database) (lines : List (List ℕ)) (draws out : List ℕ)
    → AllByRecursion IsTyped lines → AllDraws draws → Faithful plain_style W16 db None out
    → TellsThePlay db lines draws out

-- by one that is faithful to a made game, on its lines and the draws of its seed
abbrev pub DemonstrationsAgree : Type 0
DemonstrationsAgree = (n : ℕ) (out : List ℕ) → 8 ≤ n → n ≤ 120
    → Faithful plain_style W16 (made.database n) None out
    → TellsThePlay (made.database n) (made.lines n) (seeded_draws n) out
