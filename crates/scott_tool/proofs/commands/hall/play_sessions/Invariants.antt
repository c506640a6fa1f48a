use Rattle.std.proofs.Common.{◌≡◌, false, length}
use Rattle.scott_tool.proofs.Halls.{Heard}
use Rattle.scott_tool.proofs.commands.hall.play_sessions.Given as goal

-- all sessions stand where they would alone after the lines so far, and what was seen is what the
-- hall says on these
abbrev pub invariant-loop-hall : goal.invariant-loop-hall
invariant-loop-hall g l =
    let seen = g.C.Console.seen in
    record {
      seats : length l.hall.seats ≡ l.count;
      whole : l.hall.broken ≡ false;
      steady : (seen l.console).faults ≡ (seen l.initial.console).faults;
      heard : Heard (seen l.initial.console) (seen l.console) l.db l.count l.hall.seats;
    }

-- each turn but the last takes a line
abbrev pub decreases-loop-hall : goal.decreases-loop-hall
decreases-loop-hall g l = (g.C.Console.seen l.console).bound
