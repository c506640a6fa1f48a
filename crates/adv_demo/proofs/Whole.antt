-- The three lines, from what the play and the run leave.
use Rattle.std.proofs.Common.{◌≡◌, ◌∙◌, ℕ, ◌-◌, List, [], ◌++◌, None, Result, Ok, refl, sym, ap, subst}
use Rattle.std.specs.Prelude.{IsOk}
use Rattle.std.proofs.lemmas.List.{append_assoc}
use Rattle.inform_meaning.specs.Programs.{no_notes, run_of}
use Rattle.inform_reader.specs.Laws.{ProgramIn}
use Rattle.inform_reader.specs.Reading.{Fault, program_in}
use Rattle.inform_tree.specs.declared.widths.Width.{Width}
use Rattle.inform_tree.specs.declared.widths.Width.TheVariants.{W16}
use Rattle.inform_tree.specs.Programs.{DirectiveTree}
use Rattle.scott_rules.specs.Play.{play}
use Rattle.scott_types.specs.Database.{Database}
use Rattle.scott_types.specs.Style.{plain, plain_style}
use Rattle.translator.specs.Faithful.{Faithful}
use Rattle.adv_demo.specs.declared.summaries.Summary.{Summary}
use Rattle.adv_demo.specs.Summaries.{play_summary, run_summary}
use Rattle.adv_demo.specs.Texts.{size_line, play_line, run_line}
use Rattle.adv_demo.specs.Demonstrations.{played, steps_given, run_with_enough, ran_of, text_of}

-- a faithful text is read as its program
pub is_read : ProgramIn → (db : Database) (out text : List ℕ) → Faithful plain_style W16 db None out
    → text ≡ out → IsOk (program_in W16 text)
is_read law db out text faithful same =
    let read = (law W16 out faithful.program).1
    (record { text = faithful.text; accepted = faithful.faithful.accepted }) in
    subst (λ (r : Result (List DirectiveTree) Fault). IsOk r) (sym (ap (program_in W16) same ∙ read))
    refl

module _ (n : ℕ) (db : Database) (lines : List (List ℕ)) (draws out : List ℕ) where
  -- the lines one after the other
  pub joined : (text first second : List ℕ) (of_play of_run : Summary) (used : ℕ)
      → first ≡ [] ++ size_line n db → second ≡ first ++ play_line of_play
      → text ≡ second ++ run_line of_run used
      → text ≡ size_line n db ++ (play_line of_play ++ run_line of_run used)
  joined text first second of_play of_run used one two three =
      three ∙ ap (λ (t : List ℕ). t ++ run_line of_run used)
      (two ∙ ap (λ (t : List ℕ). t ++ play_line of_play) one)
      ∙ append_assoc (size_line n db) (play_line of_play) (run_line of_run used)

  -- the size, the end of the play and that of the run, line by line, are what is said of a game
  pub whole : (text : List ℕ) (of_play of_run : Summary) (used steps : ℕ) (width : Width)
      (ds : List DirectiveTree) (in_play in_run : List ℕ)
      → text ≡ size_line n db ++ (play_line of_play ++ run_line of_run used)
      → of_play ≡ play_summary (play (plain db) lines in_play)
      → of_run ≡ run_summary (run_of width ds no_notes steps lines in_run)
      → used ≡ steps - (run_of width ds no_notes steps lines in_run).1.steps
      → program_in W16 out ≡ Ok ds → width ≡ W16 → steps ≡ steps_given db lines
      → in_play ≡ draws → in_run ≡ draws → text ≡ text_of n db lines draws out
  unfolding played run_with_enough
  whole text of_play of_run used steps width ds in_play in_run text_is play_is run_is used_is read
      wide enough first second =
      text_is
      ∙ (λ i. size_line n db ++ (play_line (play_is i) ++ run_line (run_is i) (used_is i)))
      ∙ (λ i. size_line n db ++ (play_line (play_summary (play (plain db) lines (first i)))
      ++ run_line (run_summary (run_of (wide i) ds no_notes (enough i) lines (second i)))
      (enough i - (run_of (wide i) ds no_notes (enough i) lines (second i)).1.steps)))
      ∙ ap (λ (r : Result (List DirectiveTree) Fault). size_line n db
      ++ (played db lines draws ++ ran_of db lines draws r)) (sym read)
