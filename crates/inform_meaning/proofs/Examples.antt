-- The worked examples hold by computing.
use Rattle.std.proofs.Common.{refl}
use Rattle.inform_meaning.specs.Worked.{DivisionTraps, StepsAreSpent, CallsNest, WordsWrap, DivisionGoesTowardZero, ChainsGoFromTheLeft, IndexIsTestedLast, LoopsAreLeft, BodyComesFirst, OneCaseIsDone, DrawsAreTaken, LinesAreKept, QuitEndsTheRun, RoutinesGiveValues, LocalsHide, RoutinesAreNoted, AbsentTestsTakeAStep, ContinueGoesToTheTest, RandomBelowOneTraps, ShortBuffersTrap, BytesAreLow, CharactersAreLow}
use Rattle.inform_meaning.proofs.Opened.{opened}

pub division_traps : DivisionTraps
unfolding opened
division_traps = refl

pub steps_are_spent : StepsAreSpent
unfolding opened
steps_are_spent = (refl, refl)

pub calls_nest : CallsNest
unfolding opened
calls_nest = refl

pub words_wrap : WordsWrap
unfolding opened
words_wrap = (refl, refl, refl, refl, refl, refl)

pub division_goes_toward_zero : DivisionGoesTowardZero
unfolding opened
division_goes_toward_zero = (refl, refl, refl)

pub chains_go_from_the_left : ChainsGoFromTheLeft
unfolding opened
chains_go_from_the_left = refl

pub index_is_tested_last : IndexIsTestedLast
unfolding opened
index_is_tested_last = refl

pub loops_are_left : LoopsAreLeft
unfolding opened
loops_are_left = refl

pub body_comes_first : BodyComesFirst
unfolding opened
body_comes_first = refl

pub one_case_is_done : OneCaseIsDone
unfolding opened
one_case_is_done = (refl, refl, refl)

pub draws_are_taken : DrawsAreTaken
unfolding opened
draws_are_taken = (refl, refl, refl)

pub lines_are_kept : LinesAreKept
unfolding opened
lines_are_kept = (refl, refl)

pub quit_ends_the_run : QuitEndsTheRun
unfolding opened
quit_ends_the_run = refl

pub locals_hide : LocalsHide
unfolding opened
locals_hide = refl

pub routines_are_noted : RoutinesAreNoted
unfolding opened
routines_are_noted = refl

pub routines_give_values : RoutinesGiveValues
unfolding opened
routines_give_values = refl

pub absent_tests_take_a_step : AbsentTestsTakeAStep
unfolding opened
absent_tests_take_a_step = refl

pub continue_goes_to_the_test : ContinueGoesToTheTest
unfolding opened
continue_goes_to_the_test = (refl, refl)

pub random_below_one_traps : RandomBelowOneTraps
unfolding opened
random_below_one_traps = (refl, refl)

pub short_buffers_trap : ShortBuffersTrap
unfolding opened
short_buffers_trap = refl

pub bytes_are_low : BytesAreLow
unfolding opened
bytes_are_low = (refl, refl)

pub characters_are_low : CharactersAreLow
unfolding opened
characters_are_low = refl
