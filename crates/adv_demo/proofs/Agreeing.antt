-- The run of a faithful translation ends as the play does, and so their lines agree.
use Rattle.std.proofs.Common.{◌≡◌, ◌∙◌, ℕ, zero, suc, ℤ, pos, true, List, length, Option, None, refl, sym, ap, arith}
use Rattle.std.specs.Prelude.{codes, unwrap_or}
use Rattle.std.specs.List.{AllByRecursion}
use Rattle.std.proofs.lemmas.Bool.Decides.{nat_tests}
use Rattle.adv_draws.specs.Run.{is_draw, AllDraws}
use Rattle.adv_draws.specs.Seeded.{draw_of_word, rolls, seeded_count, seeded_draws, generator_of}
use Rattle.adv_io.specs.History.{lines_taken, draws_taken}
use Rattle.adv_io.specs.Steps.{Step, Traced}
use Rattle.adv_io.specs.TypedLine.{IsTyped}
use Rattle.inform_meaning.specs.Frames.{Outcome}
use Rattle.inform_meaning.specs.Runs.{Stop, stop_of}
use Rattle.inform_meaning.specs.Worlds.{Config}
use Rattle.inform_reader.specs.Laws.{ProgramIn}
use Rattle.inform_tree.specs.declared.widths.Width.TheVariants.{W16}
use Rattle.rand_pcg.specs.Lcg.{Lcg}
use Rattle.scott_types.specs.declared.endings.Ending.{Ending}
use Rattle.scott_types.specs.declared.endings.Ending.TheVariants.{Over, NeedsLine, NeedsDraw}
use Rattle.scott_types.specs.Database.{Database}
use Rattle.scott_types.specs.Style.{plain, plain_style}
use Rattle.scott_rules.specs.Play.{PlayEnd, play, ending_of}
use Rattle.trans_specs.specs.Faithful.{PlaysAlike}
use Rattle.trans_specs.specs.Same.{Same, EndingIs}
use Rattle.translator.specs.Faithful.{Faithful}
use Rattle.adv_demo.specs.declared.summaries.Summary.{Summary}
use Rattle.adv_demo.specs.Summaries.{end_of_play, end_of_run, play_summary, run_summary}
use Rattle.adv_demo.specs.Texts.{summary_text, run_line}
use Rattle.adv_demo.specs.Demonstrations.{played, steps_given, steps_used, run_with_enough, ran_of}
use Rattle.adv_demo.specs.Laws.{MadeLinesAreTyped, TellsThePlay, RunTellsThePlay, DemonstrationsAgree}

-- ---- the draws of a seed are draws

word_is : (word : ℕ) → is_draw (draw_of_word word) ≡ true
word_is word = grind (arith, nat_tests)

rolls_are_draws : (count : ℕ) (generator : Lcg) → AllDraws (rolls count generator)
unfolding rolls
rolls_are_draws zero generator = refl
rolls_are_draws (suc count) generator = rw (word_is _) (rolls_are_draws count _)

-- ---- one end

same_end : (ending : Ending) (stop : Stop) (over : Option ℤ) → EndingIs ending stop over
    → end_of_run stop (unwrap_or over (pos 0)) ≡ end_of_play ending
same_end (Over number) stop over is = λ i. end_of_run (is.0 i) (unwrap_or (is.1 i) (pos 0))
same_end NeedsLine stop over is = λ i. end_of_run (is.0 i) (unwrap_or (is.1 i) (pos 0))
same_end NeedsDraw stop over is = λ i. end_of_run (is.0 i) (unwrap_or (is.1 i) (pos 0))

-- a run that does what a play does has the summary of that play
same_summary : (t : Traced Step PlayEnd) (run : Outcome × Config) → Same t run
    → run_summary run ≡ play_summary t
same_summary t run is =
    let ended = same_end (ending_of t.value.position) (stop_of run.0)
    (run.1.world.globals (codes "over")) is.ends in
    λ i. record {
      lines = length (lines_taken (sym is.traces i));
      draws = length (draws_taken (sym is.traces i));
      end = ended i;
      room = unwrap_or (is.shows.room_is i) (pos 0);
      light = unwrap_or (is.shows.light_is i) (pos 0);
    }

-- ---- the lines

module _ (law : ProgramIn) (db : Database) (lines : List (List ℕ)) (draws out : List ℕ)
    (typed : AllByRecursion IsTyped lines) (are_draws : AllDraws draws)
    (faithful : Faithful plain_style W16 db None out) where
  alike : PlaysAlike W16 faithful.program (steps_given db lines) lines draws
      (play (plain db) lines draws)
  alike = faithful.faithful.alike lines draws (steps_given db lines) typed are_draws (omega arith)

  summaries_are_one : run_summary (run_with_enough db lines draws faithful.program)
      ≡ play_summary (play (plain db) lines draws)
  unfolding run_with_enough
  summaries_are_one = same_summary (play (plain db) lines draws)
      (run_with_enough db lines draws faithful.program) alike.same

  -- the line of the run says what the line of the play says, and then the steps that were used
  tells : TellsThePlay db lines draws out
  unfolding played
  tells =
      let read = (law W16 out faithful.program).1
      (record { text = faithful.text; accepted = faithful.faithful.accepted }) in
      let run = run_with_enough db lines draws faithful.program in
      record {
        program = faithful.program;
        read = read;
        told = summary_text (play_summary (play (plain db) lines draws));
        of_play = refl;
        of_run = ap (ran_of db lines draws) read
            ∙ ap (λ (s : Summary). run_line s (steps_used db lines run)) summaries_are_one;
      }

pub run_tells_the_play : ProgramIn → RunTellsThePlay
run_tells_the_play law db lines draws out typed are_draws faithful =
    tells law db lines draws out typed are_draws faithful

pub demonstrations_agree : MadeLinesAreTyped → RunTellsThePlay → DemonstrationsAgree
demonstrations_agree typed law n out some few faithful =
    law _ _ (seeded_draws n) out (typed n some few)
    (rolls_are_draws seeded_count (generator_of n)) faithful
