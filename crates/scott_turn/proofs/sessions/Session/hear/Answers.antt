use Rattle.std.proofs.Common.{rules, refl}
use Rattle.scott_turn.specs.Fed.{given}
use Rattle.adv_io.proofs.Along.{as_ok, as_err}
use Rattle.scott_turn.proofs.Waiting.{ends_well}
use Rattle.scott_turn.proofs.SessionViews.{leaves_ok, ending_known}
use Rattle.scott_turn.proofs.sessions.Session.hear.Goals as goal

pub returns-in-Ok : goal.returns-in-Ok
returns-in-Ok g c =
    let seen = g.C.Console.seen in
    let s = c.self.inside in
    let lines = given c.args.line in
    record {
      spoken = rw (← c.self.view_is) (as_ok _ c.in-Ok.ensures.spoken);
      leaves = rw (← c.self.view_is)
          (leaves_ok (seen c.args.console.now) (seen c.feed.new.console) s.game s.position s.state c.args.draws.now c.feed.new.draws c.feed.new.state s.tally c.feed.new.tally
          lines c.in-Ok.position c.ending_of.result s.broken c.play_spends.ensures c.feed.ensures.taken c.ending_of.ensures c.in-Ok.ensures.left);
      tried = rw (← c.self.view_is) c.in-Ok.ensures.tried;
      supplied = c.feed.ensures.taken;
      game = rw (← c.self.view_is) refl;
      breaks = (λ _. rw (← c.self.view_is) at c.requires, λ _. refl);
      three = rw (c.ending_of.ensures)
          (ending_known c.in-Ok.position
          (ends_well s.game.db c.in-Ok.position
          (rw c.in-Ok.ensures.left at (c.play_stands.ensures s.game s.position s.state lines
          c.args.draws.now.left c.self.invariant.1))));
    }

pub returns-in-Err : goal.returns-in-Err
returns-in-Err g c = record {
  spoken = rw (← c.self.view_is) (as_err _ c.in-Err.ensures.spoken);
  leaves = tt;
  tried = tt;
  supplied = c.feed.ensures.taken;
  game = rw (← c.self.view_is) refl;
  breaks = search rules;
  three = tt;
}
