use Rattle.std.proofs.Common.{◌<◌, refl, sym, arith}
use Rattle.std.proofs.lemmas.Bool.{false≢true}
use Rattle.std.proofs.lemmas.Result.{err_from_is_err_and}
use Rattle.adv_io.proofs.Sayings.{cause_again, cause_fails, cause_then}
use Rattle.scott_turn.proofs.Playing.{Point, round_stops, round_fails, round_waits, round_goes, round_breaks}
use Rattle.scott_turn.proofs.Tallying.{tries_stops, tries_waits, tries_goes}
use Rattle.scott_turn.proofs.SessionViews.{IfSome_always}
use Rattle.scott_turn.proofs.rounds.go_round.Goals as goal

pub returns-in_err-reached : goal.returns-in_err-reached
returns-in_err-reached g c =
    let seen = g.C.Console.seen in
    let p = err_from_is_err_and c.from_residual.result c.from_residual.ensures.1 in
    let here : Point = record {
      seen = seen c.args.console.now;
      position = c.args.position;
      state = c.args.state.now;
      draws = c.args.draws.now.left;
      counts = c.args.tally.now;
    } in
    let up : Point = record {
      seen = seen c.advance.new.console;
      position = c.args.position;
      state = c.advance.new.state;
      draws = c.advance.new.draws.left;
      counts = c.advance.new.tally;
    } in
    record {
      as_rules = rw (p.1) (round_fails c.args.game.now here up here.seen.left p.0
          c.in_err-reached.ensures.does.spoken);
      tried = rw (p.1) (IfSome_always here.seen.left tt);
      falls = rw (p.1) tt;
      bounded = c.in_err-reached.ensures.does.spoken.bounded;
      cause = rw (p.1) (cause_fails p.0 c.in_err-reached.ensures.does.spoken.cause);
      taken = c.advance.ensures.taken;
      fits = c.advance.ensures.fits;
      ends = rw (p.1) tt;
    }

pub returns-then-not-is_prompt : goal.returns-then-not-is_prompt
returns-then-not-is_prompt g c =
    let seen = g.C.Console.seen in
    let does = c.in_ok-reached.ensures.does in
    let here : Point = record {
      seen = seen c.args.console.now;
      position = c.args.position;
      state = c.args.state.now;
      draws = c.args.draws.now.left;
      counts = c.args.tally.now;
    } in
    let up : Point = record {
      seen = seen c.advance.new.console;
      position = c.in_ok-reached.reached;
      state = c.advance.new.state;
      draws = c.advance.new.draws.left;
      counts = c.advance.new.tally;
    } in
    record {
      as_rules = round_stops c.args.game.now here up does.left here.seen.left refl does.spoken
          (sym c.if-not-is_prompt.ensures);
      tried = tries_stops c.args.game.now here up does.left does.tried here.seen.left
          (sym c.if-not-is_prompt.ensures);
      falls = λ goes. absurd (false≢true (sym goes));
      bounded = does.spoken.bounded;
      cause = cause_again _ does.spoken.cause;
      taken = c.advance.ensures.taken;
      fits = c.advance.ensures.fits;
      ends = rw does.left at
          (c.advance_stands.ensures c.args.game.now c.args.position c.args.state.now
          c.args.draws.now.left c.requires.ends);
    }

pub returns-in-Ok-None : goal.returns-in-Ok-None
returns-in-Ok-None g c =
    let seen = g.C.Console.seen in
    let does = c.in_ok-reached.ensures.does in
    let here : Point = record {
      seen = seen c.args.console.now;
      position = c.args.position;
      state = c.args.state.now;
      draws = c.args.draws.now.left;
      counts = c.args.tally.now;
    } in
    let up : Point = record {
      seen = seen c.advance.new.console;
      position = c.in_ok-reached.reached;
      state = c.advance.new.state;
      draws = c.advance.new.draws.left;
      counts = c.advance.new.tally;
    } in
    let to : Point = record {
      seen = seen c.answer_next.new.console;
      position = c.in_ok-reached.reached;
      state = c.answer_next.new.state;
      draws = c.advance.new.draws.left;
      counts = c.answer_next.new.tally;
    } in
    record {
      as_rules = round_waits c.args.game.now here up does.left to here.seen.left refl does.spoken
          (rw c.in-Ok-None.field-0-is at c.in-Ok-None.ensures.as_rules);
      tried = tries_waits c.args.game.now here up does.left does.tried to here.seen.left
          does.spoken.lines_stay (rw c.in-Ok-None.field-0-is at c.in-Ok-None.ensures.as_rules)
          c.in-Ok-None.ensures.tried;
      falls = λ goes. absurd (false≢true (sym goes));
      bounded = omega (arith, does.spoken.bounded, c.answer_next.ensures.bounded);
      cause = cause_then does.spoken.cause (cause_again _ c.in-Ok-None.ensures.cause);
      taken = c.advance.ensures.taken;
      fits = c.answer_next.ensures.fits;
      ends = rw does.left at
          (c.advance_stands.ensures c.args.game.now c.args.position c.args.state.now
          c.args.draws.now.left c.requires.ends);
    }

pub returns-in-Ok-Some : goal.returns-in-Ok-Some
returns-in-Ok-Some g c =
    let seen = g.C.Console.seen in
    let does = c.in_ok-reached.ensures.does in
    let less : (seen c.answer_next.new.console).bound < (seen c.advance.new.console).bound =
    rw c.in-Ok-Some.field-0-is at c.in-Ok-Some.ensures.falls in
    let here : Point = record {
      seen = seen c.args.console.now;
      position = c.args.position;
      state = c.args.state.now;
      draws = c.args.draws.now.left;
      counts = c.args.tally.now;
    } in
    let up : Point = record {
      seen = seen c.advance.new.console;
      position = c.in_ok-reached.reached;
      state = c.advance.new.state;
      draws = c.advance.new.draws.left;
      counts = c.advance.new.tally;
    } in
    let to : Point = record {
      seen = seen c.answer_next.new.console;
      position = c.in-Ok-Some.position;
      state = c.answer_next.new.state;
      draws = c.advance.new.draws.left;
      counts = c.answer_next.new.tally;
    } in
    record {
      as_rules = round_goes c.args.game.now here up does.left to here.seen.left refl does.spoken
          (sym c.if-not-is_prompt.ensures)
          (rw c.in-Ok-Some.field-0-is at c.in-Ok-Some.ensures.as_rules);
      tried = tries_goes c.args.game.now here up does.left does.tried to here.seen.left
          does.spoken.lines_stay (sym c.if-not-is_prompt.ensures)
          (rw c.in-Ok-Some.field-0-is at c.in-Ok-Some.ensures.as_rules) c.in-Ok-Some.ensures.tried;
      falls = λ _. omega (arith, does.spoken.bounded);
      bounded = omega (arith, does.spoken.bounded);
      cause = cause_then does.spoken.cause (cause_again _ c.in-Ok-Some.ensures.cause);
      taken = c.advance.ensures.taken;
      fits = c.answer_next.ensures.fits;
      ends = rw c.in-Ok-Some.field-0-is at c.in-Ok-Some.ensures.ends;
    }

pub returns-in-Err : goal.returns-in-Err
returns-in-Err g c =
    let seen = g.C.Console.seen in
    let does = c.in_ok-reached.ensures.does in
    let here : Point = record {
      seen = seen c.args.console.now;
      position = c.args.position;
      state = c.args.state.now;
      draws = c.args.draws.now.left;
      counts = c.args.tally.now;
    } in
    let up : Point = record {
      seen = seen c.advance.new.console;
      position = c.in_ok-reached.reached;
      state = c.advance.new.state;
      draws = c.advance.new.draws.left;
      counts = c.advance.new.tally;
    } in
    let to : Point = record {
      seen = seen c.answer_next.new.console;
      position = c.in_ok-reached.reached;
      state = c.answer_next.new.state;
      draws = c.advance.new.draws.left;
      counts = c.answer_next.new.tally;
    } in
    record {
      as_rules = round_breaks c.args.game.now here up does.left to here.seen.left c.in-Err.fault refl
          does.spoken (sym c.if-not-is_prompt.ensures) c.in-Err.ensures.as_rules;
      tried = IfSome_always here.seen.left tt;
      falls = tt;
      bounded = omega (arith, does.spoken.bounded, c.answer_next.ensures.bounded);
      cause = cause_then does.spoken.cause (cause_fails _ c.in-Err.ensures.cause);
      taken = c.advance.ensures.taken;
      fits = c.answer_next.ensures.fits;
      ends = tt;
    }
