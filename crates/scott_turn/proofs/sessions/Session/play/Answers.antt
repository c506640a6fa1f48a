use Rattle.std.proofs.Common.{Ok, IfSome, rules, true, refl}
use Rattle.adv_io.proofs.Sayings.{cause_again, cause_fails}
use Rattle.scott_rules.specs.Play.{go}
use Rattle.scott_turn.specs.Rounds.{PlaysOut}
use Rattle.scott_turn.proofs.Waiting.{ends_well}
use Rattle.scott_turn.proofs.SessionViews.{plays_ok, plays_err, goes_on_ok, IfSome_always, ending_known}
use Rattle.scott_turn.proofs.sessions.Session.play.Goals as goal

pub returns-in-Ok : goal.returns-in-Ok
returns-in-Ok g c =
    let seen = g.C.Console.seen in
    let s = c.self.inside in
    let as_rules : IfSome (seen c.args.console.now).left (λ lines. PlaysOut (seen c.args.console.now) (seen c.play_on.new.console) (Ok c.in-Ok.position) (go s.game s.position s.state lines c.args.draws.now.left) c.play_on.new.state c.play_on.new.draws.left) = c.in-Ok.ensures.as_rules in
    record {
      plays = rw (← c.self.view_is)
          (plays_ok (seen c.args.console.now) (seen c.play_on.new.console) s.game s.position s.state c.args.draws.now c.play_on.new.draws c.play_on.new.state s.tally c.play_on.new.tally
          ((seen c.args.console.now).left) c.in-Ok.position c.ending_of.result s.broken c.play_spends.ensures c.in-Ok.ensures.taken c.ending_of.ensures as_rules);
      goes_on = rw (← c.self.view_is)
          (goes_on_ok (seen c.args.console.now) (seen c.play_on.new.console) s.game s.position s.state c.args.draws.now c.play_on.new.draws c.play_on.new.state s.tally c.play_on.new.tally
          ((seen c.args.console.now).left) c.in-Ok.position c.ending_of.result s.broken s.broken c.play_splits.ensures as_rules);
      bounded = c.play_on.ensures.bounded;
      cause = cause_again _ c.in-Ok.ensures.cause;
      tried = rw (← c.self.view_is) c.in-Ok.ensures.tried;
      supplied = c.play_on.ensures.taken;
      game = rw (← c.self.view_is) refl;
      breaks = (λ _. rw (← c.self.view_is) at c.requires, λ _. refl);
      three = rw (c.ending_of.ensures)
          (ending_known c.in-Ok.position
          (ends_well s.game.db c.in-Ok.position c.in-Ok.ensures.ends));
    }

pub returns-in-Err : goal.returns-in-Err
returns-in-Err g c =
    let seen = g.C.Console.seen in
    let s = c.self.inside in
    record {
      plays = rw (← c.self.view_is)
          (plays_err (seen c.args.console.now) (seen c.play_on.new.console) s.game s.position s.state c.args.draws.now c.play_on.new.draws c.play_on.new.state s.tally c.play_on.new.tally
          ((seen c.args.console.now).left) s.position true c.in-Err.fault c.in-Err.fault c.in-Err.ensures.as_rules);
      goes_on = IfSome_always ((seen c.args.console.now).left) tt;
      bounded = c.play_on.ensures.bounded;
      cause = cause_fails _ c.in-Err.ensures.cause;
      tried = IfSome_always ((seen c.args.console.now).left) tt;
      supplied = c.play_on.ensures.taken;
      game = rw (← c.self.view_is) refl;
      breaks = search rules;
      three = tt;
    }
