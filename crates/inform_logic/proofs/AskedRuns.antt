-- The runs of a program that reads a line.
use Rattle.std.proofs.Common.{◌≡◌, arith, ℕ, ◌+◌, true, false, [], ◌∷◌, codes, refl}
use Rattle.std.specs.Int.{int_wrap}
use Rattle.inform_tree.specs.declared.widths.Width.{Width}
use Rattle.inform_tree.specs.declared.widths.Width.TheVariants.{W16, W32}
use Rattle.inform_names.specs.Meanings.{meanings}
use Rattle.inform_meaning.specs.Worlds.{Program, Scope, has_room}
use Rattle.inform_meaning.specs.Words.{number_word}
use Rattle.inform_meaning.specs.Runs.{CALL_LIMIT, Stop}
use Rattle.inform_meaning.specs.Programs.{no_notes, entries_in, program_in}
use Rattle.inform_logic.specs.Stages.{Stage}
use Rattle.inform_logic.specs.Leading.{TheBlock}
use Rattle.inform_logic.specs.Holding.{Has}
use Rattle.inform_logic.specs.Stopping.{Stops, CallStops, in_block, in_call_alone}
use Rattle.inform_logic.specs.Worked.{ask}
use Rattle.inform_logic.specs.WorkedRuns.{buffer, main, asking, RunIsOver, RunWaits}
use Rattle.inform_logic.proofs.Values.{within, number, argument}
use Rattle.inform_logic.proofs.Stops.{later, handed_up, step_stops, called_stops}
use Rattle.inform_logic.proofs.Whole.{run_stops}
use Rattle.inform_logic.proofs.Asked.{line_is_taken, line_is_awaited}

has_ask : (width : Width) → Has (program_in width asking no_notes) ask
has_ask width = record { at = 2; there = refl; unseen = refl }

room : (width : Width) → has_room (entries_in width (meanings width asking) false buffer) ≡ true
unfolding int_wrap
room W16 = refl
room W32 = refl

-- what stops `ask` stops the body of `Main`
by_ask : (p : Program) (s : Scope) (w w' : Stage) (stop : Stop) (n : ℕ)
    → CallStops p CALL_LIMIT (codes "ask") (number_word p.width 7 ∷ []) w stop w' n
    → Stops p CALL_LIMIT (TheBlock main.body) s w stop w' (n + 2)
by_ask p s w w' stop n ask = later (λ e s'. within (omega arith)) (handed_up in_block
    (step_stops (handed_up in_call_alone (later (λ e s'. argument number) (called_stops ask)))))

pub run_is_over : RunIsOver
run_is_over width line lines draws = run_stops width asking no_notes (line ∷ lines) draws _ _ 4
    (by_ask _ _ _ _ _ 2
    (line_is_taken _ 199 _ _ _ line lines (has_ask width) refl (room width) refl))
    (λ k. tt)

pub run_waits : RunWaits
run_waits width draws = run_stops width asking no_notes [] draws _ _ 3
    (by_ask _ _ _ _ _ 1 (line_is_awaited _ 199 _ _ _ (has_ask width) refl (room width) refl))
    (λ k. tt)
