-- One part after another, said to a console.
use Rattle.std.proofs.Common.{◌≡◌, ℕ, ◌-◌, ◌<◌, ◌≤◌, List, [], ◌∷◌, length, drop, take, map, get_or, Option, Some, None, Result, Ok, Err, refl, sym, ap, arith}
use Rattle.std.proofs.lemmas.List.{take_all}
use Rattle.adv_io.specs.History.{says}
use Rattle.adv_io.specs.Console.{ConsoleView, Speaks}
use Rattle.adv_io.proofs.Histories.{says-append}
use Rattle.adv_io.proofs.Sayings.{cause_fails, speaks_then, speaks_stop}
use Rattle.scott_types.specs.declared.states.State.{State}
use Rattle.scott_types.specs.Style.{Game}
use Rattle.scott_types.specs.Opcode.{opcode_of}
use Rattle.adv_io.specs.Steps.{Traced, after, traced}
use Rattle.scott_rules.specs.Progress.{Progress, goes_on, and_then, then_if_on}
use Rattle.scott_rules.specs.Opcodes.{op, takes, run_opcodes}

-- without an opcode nothing is done
pub run_opcodes-none : (game : Game) (noun opcodes params : List ℕ) (s : State) → length opcodes < 1 → run_opcodes game noun (map opcode_of opcodes) params s ≡ traced [] (goes_on s)
run_opcodes-none game noun [] params s none = refl
run_opcodes-none game noun (number ∷ others) params s none = absurd (omega arith)

-- a run of opcodes is its first opcode, and the others after it
pub run_opcodes-first : (game : Game) (noun opcodes params : List ℕ) (s : State) → 1 ≤ length opcodes
    → run_opcodes game noun (map opcode_of opcodes) params s
    ≡ and_then (op game noun (opcode_of (get_or opcodes 0 0)) params s)
    (run_opcodes game noun (map opcode_of (take (length opcodes - 1) (drop 1 opcodes))) (drop (takes game.db s (opcode_of (get_or opcodes 0 0))) params))
run_opcodes-first game noun [] params s h = absurd (omega arith)
run_opcodes-first game noun (number ∷ others) params s h =
    let all : take (length (number ∷ others) - 1) others ≡ others = take_all (length (number ∷ others) - 1) others (omega arith) in
    ap (λ ns. and_then (op game noun (opcode_of number) params s) (run_opcodes game noun (map opcode_of ns) (drop (takes game.db s (opcode_of number)) params))) (sym all)

-- after a part that doesn't end the game comes the next one
pub and_then-on : (t : Traced ℕ Progress) (next : State → Traced ℕ Progress) → t.value.over ≡ None → and_then t next ≡ after t.events (next t.value.state)
and_then-on t next on = ap (λ over. then_if_on over t next) on

-- a part that ends the game is the whole
pub and_then-over : (t : Traced ℕ Progress) (next : State → Traced ℕ Progress) {ending : ℕ} → t.value.over ≡ Some ending → and_then t next ≡ t
and_then-over t next ended = ap (λ over. then_if_on over t next) ended

-- a part that failed, whatever was to come after it
pub part_stop : {T U D E : Type 0} {old new : ConsoleView} {d : D} (e : E) (over : Option ℕ) (t : Traced ℕ Progress) (next : State → Traced ℕ Progress)
    → Speaks {T = T} old new (Err d) (says t.events)
    → Speaks {T = U} old new (Err e) (says (then_if_on over t next).events)
part_stop e None t next stop =
    let more = (next t.value.state).events in
    rw (says-append t.events more) (speaks_stop e (says more) stop)
part_stop e (Some ending) t next stop = record {
  said = tt;
  part = stop.part;
  lines_stay = stop.lines_stay;
  bounded = stop.bounded;
  cause = cause_fails e stop.cause;
}

-- a part that was said, and the next one after it
pub part_then : {S T D E : Type 0} {old mid new : ConsoleView} {x : S} {r : Result T E} (t : Traced ℕ Progress) (next : State → Traced ℕ Progress) → t.value.over ≡ None
    → Speaks {E = D} old mid (Ok x) (says t.events)
    → Speaks mid new r (says (next t.value.state).events)
    → Speaks old new r (says (and_then t next).events)
part_then t next on first then =
    rw (on, says-append t.events (next t.value.state).events) (speaks_then first then)
