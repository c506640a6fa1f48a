use Rattle.std.proofs.Common.{◌≡◌, ◌+◌, ◌≤◌, length, IfSome}
use Rattle.scott_types.specs.State.{Fits}
use Rattle.scott_turn.specs.Positions.{CanStand}
use Rattle.scott_turn.proofs.Playing.{Point, play_from, Ahead}
use Rattle.scott_turn.proofs.Tallying.{TalliedTo}
use Rattle.scott_turn.proofs.rounds.play_on.Given as goal

-- where the lines of the console are known, the whole play is what was shown so far and the play
-- from here
abbrev pub invariant-loop-round : goal.invariant-loop-round
invariant-loop-round g l =
    let seen = g.C.Console.seen in
    let first : Point = record {
      seen = seen l.initial.console;
      position = l.initial.position;
      state = l.initial.state;
      draws = l.initial.draws.left;
      counts = l.initial.tally;
    } in
    let here : Point = record {
      seen = seen l.console;
      position = l.position;
      state = l.state;
      draws = l.draws.left;
      counts = l.tally;
    } in
    record {
      fits : Fits l.game.db l.state;
      ends : CanStand l.game.db l.position;
      taken : l.draws.taken + length l.draws.left ≡ l.initial.draws.taken + length l.initial.draws.left;
      bounded : (seen l.console).bound ≤ (seen l.initial.console).bound;
      steady : (seen l.console).faults ≡ (seen l.initial.console).faults;
      tried : TalliedTo l.game first here (play_from l.game first) first.seen.left;
      ahead : IfSome first.seen.left (λ lines. Ahead l.game first here (play_from l.game first lines));
    }

-- each round but the last takes a line
abbrev pub decreases-loop-round : goal.decreases-loop-round
decreases-loop-round g l = (g.C.Console.seen l.console).bound
