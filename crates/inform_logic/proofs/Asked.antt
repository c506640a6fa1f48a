-- A line that is read, and the end of the run or the wait for a line.
use Rattle.inform_logic.specs.Worked.{LineIsTaken, LineIsAwaited}
use Rattle.inform_logic.specs.Stopping.{in_block}
use Rattle.inform_logic.proofs.Statements.{next, read}
use Rattle.inform_logic.proofs.Stops.{quit, read_waits, later, handed_up, routine_stops}

pub line_is_taken : LineIsTaken
line_is_taken p d values w entries line lines has there room left = routine_stops has
    (later (λ e s'. next (read there room left)) (handed_up in_block quit))

pub line_is_awaited : LineIsAwaited
line_is_awaited p d values w entries has there room left =
    routine_stops has (handed_up in_block (read_waits there room left))
