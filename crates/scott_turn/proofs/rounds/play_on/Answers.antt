use Rattle.std.proofs.Common.{◌∙◌, refl, arith}
use Rattle.std.proofs.lemmas.Result.{err_from_is_err_and}
use Rattle.adv_io.proofs.Sayings.{cause_again, cause_fails}
use Rattle.scott_turn.proofs.Playing.{Point, play_from, ahead_start, ahead_step, ahead_end, ahead_fail}
use Rattle.scott_turn.proofs.Tallying.{tries_start, tries_step, tries_last}
use Rattle.scott_turn.proofs.SessionViews.{IfSome_always}
use Rattle.scott_turn.proofs.rounds.play_on.Goals as goal

pub returns-in_err-round : goal.returns-in_err-round
returns-in_err-round g c =
    let seen = g.C.Console.seen in
    let p = err_from_is_err_and c.from_residual.result c.from_residual.ensures.1 in
    let first : Point = record {
      seen = seen c.args.console.now;
      position = c.args.position;
      state = c.args.state.now;
      draws = c.args.draws.now.left;
      counts = c.args.tally.now;
    } in
    let here : Point = record {
      seen = seen c.loop-round.console;
      position = c.loop-round.position;
      state = c.loop-round.state;
      draws = c.loop-round.draws.left;
      counts = c.loop-round.tally;
    } in
    let to : Point = record {
      seen = seen c.go_round.new.console;
      position = c.args.position;
      state = c.go_round.new.state;
      draws = c.go_round.new.draws.left;
      counts = c.go_round.new.tally;
    } in
    record {
      as_rules = rw (p.1) (ahead_fail c.args.game.now first here to (play_from c.args.game.now first)
          first.seen.left c.in_err-round.field-0.0 p.0 c.loop-round.invariant.ahead
          c.in_err-round.ensures.as_rules);
      tried = rw (p.1) (IfSome_always first.seen.left tt);
      bounded = omega (arith, c.loop-round.invariant.bounded, c.go_round.ensures.bounded);
      cause = rw (p.1) (cause_fails p.0 (rw c.loop-round.invariant.steady at c.in_err-round.ensures.cause));
      taken = c.go_round.ensures.taken ∙ c.loop-round.invariant.taken;
      fits = c.go_round.ensures.fits;
      ends = rw (p.1) tt;
    }

pub returns-then-round : goal.returns-then-round
returns-then-round g c =
    let seen = g.C.Console.seen in
    let first : Point = record {
      seen = seen c.args.console.now;
      position = c.args.position;
      state = c.args.state.now;
      draws = c.args.draws.now.left;
      counts = c.args.tally.now;
    } in
    let here : Point = record {
      seen = seen c.loop-round.console;
      position = c.loop-round.position;
      state = c.loop-round.state;
      draws = c.loop-round.draws.left;
      counts = c.loop-round.tally;
    } in
    let to : Point = record {
      seen = seen c.go_round.new.console;
      position = c.in_ok-round.round.position;
      state = c.go_round.new.state;
      draws = c.go_round.new.draws.left;
      counts = c.go_round.new.tally;
    } in
    record {
      as_rules = ahead_end c.args.game.now first here to (play_from c.args.game.now first)
          first.seen.left c.in_ok-round.round.stopped c.if-round.true c.loop-round.invariant.ahead
          c.in_ok-round.ensures.as_rules;
      tried = tries_last c.args.game.now first here to (play_from c.args.game.now first)
          c.in_ok-round.round.stopped first.seen.left c.if-round.true c.loop-round.invariant.ahead
          c.loop-round.invariant.tried c.in_ok-round.ensures.tried c.in_ok-round.ensures.as_rules;
      bounded = omega (arith, c.loop-round.invariant.bounded, c.go_round.ensures.bounded);
      cause = cause_again _ (rw c.loop-round.invariant.steady at c.in_ok-round.ensures.cause);
      taken = c.go_round.ensures.taken ∙ c.loop-round.invariant.taken;
      fits = c.go_round.ensures.fits;
      ends = c.in_ok-round.ensures.ends;
    }

pub loop-round-preserved : goal.loop-round-preserved
loop-round-preserved g c =
    let seen = g.C.Console.seen in
    let first : Point = record {
      seen = seen c.args.console.now;
      position = c.args.position;
      state = c.args.state.now;
      draws = c.args.draws.now.left;
      counts = c.args.tally.now;
    } in
    let here : Point = record {
      seen = seen c.loop-round.console;
      position = c.loop-round.position;
      state = c.loop-round.state;
      draws = c.loop-round.draws.left;
      counts = c.loop-round.tally;
    } in
    let to : Point = record {
      seen = seen c.go_round.new.console;
      position = c.in_ok-round.round.position;
      state = c.go_round.new.state;
      draws = c.go_round.new.draws.left;
      counts = c.go_round.new.tally;
    } in
    record {
      fits = c.go_round.ensures.fits;
      ends = c.in_ok-round.ensures.ends;
      taken = c.go_round.ensures.taken ∙ c.loop-round.invariant.taken;
      tried = tries_step c.args.game.now first here to (play_from c.args.game.now first)
          c.in_ok-round.round.stopped first.seen.left c.if-round.false c.loop-round.invariant.ahead
          c.loop-round.invariant.tried c.in_ok-round.ensures.tried;
      bounded = omega (arith, c.loop-round.invariant.bounded, c.go_round.ensures.bounded);
      steady = c.in_ok-round.ensures.cause.steady ∙ c.loop-round.invariant.steady;
      ahead = ahead_step c.args.game.now first here to (play_from c.args.game.now first)
          first.seen.left c.in_ok-round.round.stopped c.if-round.false c.loop-round.invariant.ahead
          c.in_ok-round.ensures.as_rules;
    }

pub loop-round-init : goal.loop-round-init
loop-round-init g c =
    let seen = g.C.Console.seen in
    let first : Point = record {
      seen = seen c.args.console.now;
      position = c.args.position;
      state = c.args.state.now;
      draws = c.args.draws.now.left;
      counts = c.args.tally.now;
    } in
    record {
      fits = c.requires.fits;
      ends = c.requires.ends;
      taken = refl;
      tried = tries_start c.args.game.now first first.seen.left refl;
      bounded = omega arith;
      steady = refl;
      ahead = ahead_start c.args.game.now first first.seen.left refl;
    }
