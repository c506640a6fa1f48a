use Rattle.std.proofs.Common.{◌≡◌, ◌<◌, arith}
use Rattle.adv_io.proofs.Sayings.{cause_again, cause_fails, cause_then}
use Rattle.scott_turn.proofs.Playing.{next_ends, next_answered, next_part, next_fails}
use Rattle.scott_turn.proofs.Tallying.{next_tries_none, next_tries}
use Rattle.scott_turn.proofs.SessionViews.{IfSome_always}
use Rattle.scott_turn.proofs.rounds.answer_next.Goals as goal

pub returns-in-Ok-End : goal.returns-in-Ok-End
returns-in-Ok-End g c =
    let seen = g.C.Console.seen in
    let same : (seen c.take.new.self).bound ≡ (seen c.args.console.now).bound = rw c.in-Ok-End.field-0-is at c.in-Ok-End.ensures.bounded in
    record {
      as_rules = next_ends (seen c.args.console.now) (seen c.take.new.self) ((seen c.args.console.now).left) c.args.game.now c.args.state.now c.take.new.line
          (rw c.in-Ok-End.field-0-is at c.in-Ok-End.ensures.lines) (rw c.in-Ok-End.field-0-is at c.in-Ok-End.ensures.taken);
      tried = next_tries_none ((seen c.args.console.now).left) ((seen c.take.new.self).left) c.args.game.now c.args.state.now c.take.new.line c.args.tally.now (rw c.in-Ok-End.field-0-is at c.in-Ok-End.ensures.lines);
      falls = tt;
      bounded = omega arith;
      cause = cause_again _ c.in-Ok-End.ensures.cause;
      fits = c.requires;
      ends = tt;
    }

pub returns-in-Ok : goal.returns-in-Ok
returns-in-Ok g c =
    let seen = g.C.Console.seen in
    let less : (seen c.take.new.self).bound < (seen c.args.console.now).bound = rw c.in-Ok-Got.field-0-is at c.in-Ok-Got.ensures.bounded in
    record {
      as_rules = next_answered (seen c.args.console.now) (seen c.take.new.self) (seen c.answer.new.console) ((seen c.args.console.now).left) c.args.game.now c.args.state.now c.answer.new.state c.take.new.line c.in-Ok.position
          (rw c.in-Ok-Got.field-0-is at c.in-Ok-Got.ensures.lines) (rw c.in-Ok-Got.field-0-is at c.in-Ok-Got.ensures.taken) c.in-Ok.ensures.does.spoken c.in-Ok.ensures.does.left;
      tried = next_tries ((seen c.args.console.now).left) ((seen c.take.new.self).left) c.args.game.now c.args.state.now c.take.new.line c.args.tally.now c.answer.new.tally (rw c.in-Ok-Got.field-0-is at c.in-Ok-Got.ensures.lines) c.in-Ok.ensures.does.tried;
      falls = omega (arith, c.in-Ok.ensures.does.spoken.bounded);
      bounded = omega (arith, c.in-Ok.ensures.does.spoken.bounded);
      cause = cause_then c.in-Ok-Got.ensures.cause (cause_again _ c.in-Ok.ensures.does.spoken.cause);
      fits = c.answer.ensures.fits;
      ends = rw c.in-Ok.ensures.does.left at (c.answer_stands.ensures c.args.game.now c.take.new.line
          c.args.state.now);
    }

pub returns-in-Err-answer : goal.returns-in-Err-answer
returns-in-Err-answer g c =
    let seen = g.C.Console.seen in
    let less : (seen c.take.new.self).bound < (seen c.args.console.now).bound = rw c.in-Ok-Got.field-0-is at c.in-Ok-Got.ensures.bounded in
    record {
      as_rules = next_part (seen c.args.console.now) (seen c.take.new.self) (seen c.answer.new.console) ((seen c.args.console.now).left) c.args.game.now c.args.state.now c.answer.new.state c.take.new.line c.in-Err-answer.fault
          (rw c.in-Ok-Got.field-0-is at c.in-Ok-Got.ensures.lines) (rw c.in-Ok-Got.field-0-is at c.in-Ok-Got.ensures.taken) c.in-Err-answer.ensures.does.spoken;
      tried = IfSome_always ((seen c.args.console.now).left) tt;
      falls = tt;
      bounded = omega (arith, c.in-Err-answer.ensures.does.spoken.bounded);
      cause = cause_then c.in-Ok-Got.ensures.cause (cause_fails _ c.in-Err-answer.ensures.does.spoken.cause);
      fits = c.answer.ensures.fits;
      ends = tt;
    }

pub returns-in-Err : goal.returns-in-Err
returns-in-Err g c =
    let seen = g.C.Console.seen in
    record {
      as_rules = next_fails (seen c.args.console.now) (seen c.take.new.self) ((seen c.args.console.now).left) c.args.game.now c.args.state.now c.in-Err.fault c.in-Err.ensures.taken;
      tried = IfSome_always ((seen c.args.console.now).left) tt;
      falls = tt;
      bounded = c.in-Err.ensures.bounded;
      cause = cause_fails _ c.in-Err.ensures.cause;
      fits = c.requires;
      ends = tt;
    }
