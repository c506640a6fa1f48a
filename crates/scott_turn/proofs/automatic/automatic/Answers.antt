use Rattle.std.proofs.Common.{◌∙◌, ◌+◌, [], length, refl, sym, ap}
use Rattle.scott_types.specs.Action.{verb_of}
use Rattle.scott_types.specs.Database.{action_at}
use Rattle.std.proofs.lemmas.Result.{err_from_is_err_and}
use Rattle.adv_io.specs.Steps.{after}
use Rattle.scott_rules.specs.Groups.{automatic}
use Rattle.scott_turn.specs.Heads.{group_at, groups_for, line_of, IsFirst}
use Rattle.scott_turn.specs.Turns.{auto_turn}
use Rattle.adv_io.proofs.Along.{along_start, along_step, along_done, along_end, along_stop, along_value}
use Rattle.scott_turn.proofs.Groups.{verb_of_head, vocab_of_head, comes_here, head_found, groups_for-found, groups_for-none, fewer_lines}
use Rattle.scott_turn.proofs.Turning.{automatic-for, automatic-on, automatic-stop, automatic-prefix, after_halt}
use Rattle.scott_turn.proofs.Tallying.{tallied_on, tallied_end}
use Rattle.scott_turn.proofs.automatic.automatic.Goals as goal

pub loop-next-init : goal.loop-next-init
loop-next-init g c =
    let game = c.args.game.now in
    record {
      at_head = head_found game.db 0 c.args.from c.first_head-next.result c.first_head-next.ensures;
      fits = c.requires;
      taken = refl;
      tried = rw (automatic-for game c.args.from c.args.state.now c.args.draws.now.left, groups_for-found game.db 0 c.args.from c.first_head-next.result c.first_head-next.ensures) refl;
      along = rw (automatic-for game c.args.from c.args.state.now c.args.draws.now.left, groups_for-found game.db 0 c.args.from c.first_head-next.result c.first_head-next.ensures) (along_start _ _);
    }

pub auto_turn-requires : goal.auto_turn-requires
auto_turn-requires g c = record {
  fits = c.loop-next.invariant.fits;
  there = (rw c.in-Some.is at c.loop-next.invariant.at_head).0;
}

pub returns-in_err-halt : goal.returns-in_err-halt
returns-in_err-halt g c =
    let game = c.args.game.now in
    let head = c.in-Some.head in
    let t = auto_turn game (group_at game.db head) c.loop-next.state c.loop-next.draws.left in
    let p = err_from_is_err_and c.from_residual.result c.from_residual.ensures.1 in
    let comes = comes_here game.db 0 head (rw c.in-Some.is at c.loop-next.invariant.at_head) in
    record {
      does = rw (p.1) (record {
        spoken = along_stop p.0 t.events (after_halt t.value.halt t (automatic game (groups_for game.db 0 (head + 1)))) (rw c.in-Some.is at c.loop-next.invariant.along)
            (automatic-prefix game head head c.loop-next.state c.loop-next.draws.left comes)
            c.in_err-halt.ensures.does.spoken;
        tried = tt;
        left = tt;
      });
      taken = c.auto_turn.ensures.taken ∙ c.loop-next.invariant.taken;
      fits = c.auto_turn.ensures.fits;
    }

pub returns-then-not-goes_on : goal.returns-then-not-goes_on
returns-then-not-goes_on g c =
    let game = c.args.game.now in
    let head = c.in-Some.head in
    let comes = comes_here game.db 0 head (rw c.in-Some.is at c.loop-next.invariant.at_head) in
    let stop = automatic-stop game head head c.loop-next.state c.loop-next.draws.left comes c.in_ok-halt.halt (sym (ap (λ v. v.halt) c.in_ok-halt.ensures.does.left)) (sym c.if-not-goes_on.ensures) in
    record {
      does = record {
        spoken = along_end (auto_turn game (group_at game.db head) c.loop-next.state c.loop-next.draws.left).events (rw c.in-Some.is at c.loop-next.invariant.along)
            (ap (λ w. w.events) stop) c.in_ok-halt.ensures.does.spoken;
        tried = tallied_end (auto_turn game (group_at game.db head) c.loop-next.state c.loop-next.draws.left).events (automatic game (groups_for game.db 0 head) c.loop-next.state c.loop-next.draws.left).events c.loop-next.tally
            (rw c.in-Some.is at c.loop-next.invariant.tried) (ap (λ w. w.events) stop) c.in_ok-halt.ensures.does.tried;
        left = along_value (rw c.in-Some.is at c.loop-next.invariant.along) ∙ ap (λ w. w.value) stop ∙ c.in_ok-halt.ensures.does.left;
      };
      taken = c.auto_turn.ensures.taken ∙ c.loop-next.invariant.taken;
      fits = c.auto_turn.ensures.fits;
    }

pub head_after-next-requires : goal.head_after-next-requires
head_after-next-requires g c =
    let at = rw c.in-Some.is at c.loop-next.invariant.at_head in
    record { there = at.0; head = vocab_of_head 0 (action_at c.args.game.now.db c.in-Some.head) (at.1) }

pub loop-next-smaller : goal.loop-next-smaller
loop-next-smaller g c =
    let db = c.args.game.now.db in
    let head = c.in-Some.head in
    rw c.in-Some.is
    (fewer_lines db (verb_of (action_at db head).vocab) head c.head_after-next.result ((rw c.in-Some.is at c.loop-next.invariant.at_head).0) c.head_after-next.ensures)

pub loop-next-preserved : goal.loop-next-preserved
loop-next-preserved g c =
    let game = c.args.game.now in
    let head = c.in-Some.head in
    let t = auto_turn game (group_at game.db head) c.loop-next.state c.loop-next.draws.left in
    let comes = comes_here game.db 0 head (rw c.in-Some.is at c.loop-next.invariant.at_head) in
    let rest : IsFirst game.db 0 (head + 1) c.head_after-next.result = rw (verb_of_head 0 (action_at game.db head) comes.is_head) at c.head_after-next.ensures in
    record {
      at_head = head_found game.db 0 (head + 1) c.head_after-next.result rest;
      tried = tallied_on t.events (automatic game (groups_for game.db 0 (line_of game.db c.head_after-next.result)) c.auto_turn.new.state c.auto_turn.new.draws.left).events
          (automatic game (groups_for game.db 0 head) c.loop-next.state c.loop-next.draws.left).events c.loop-next.tally
          (rw c.in-Some.is at c.loop-next.invariant.tried)
          (ap (λ w. w.events) (automatic-on game head head c.loop-next.state c.loop-next.draws.left comes c.in_ok-halt.halt (sym (ap (λ v. v.halt) c.in_ok-halt.ensures.does.left)) (sym c.if-not-goes_on.ensures)
          c.auto_turn.new.state (sym (ap (λ v. v.state) c.in_ok-halt.ensures.does.left)) c.auto_turn.new.draws.left c.in_ok-halt.ensures.draws
          ∙ ap (λ gs. after t.events (automatic game gs c.auto_turn.new.state c.auto_turn.new.draws.left)) (groups_for-found game.db 0 (head + 1) c.head_after-next.result rest)))
          c.in_ok-halt.ensures.does.tried;
      fits = c.auto_turn.ensures.fits;
      taken = c.auto_turn.ensures.taken ∙ c.loop-next.invariant.taken;
      along = along_step t.events (automatic game (groups_for game.db 0 (line_of game.db c.head_after-next.result)) c.auto_turn.new.state c.auto_turn.new.draws.left) (rw c.in-Some.is at c.loop-next.invariant.along)
          (automatic-on game head head c.loop-next.state c.loop-next.draws.left comes c.in_ok-halt.halt (sym (ap (λ v. v.halt) c.in_ok-halt.ensures.does.left)) (sym c.if-not-goes_on.ensures)
          c.auto_turn.new.state (sym (ap (λ v. v.state) c.in_ok-halt.ensures.does.left)) c.auto_turn.new.draws.left c.in_ok-halt.ensures.draws
          ∙ ap (λ gs. after t.events (automatic game gs c.auto_turn.new.state c.auto_turn.new.draws.left)) (groups_for-found game.db 0 (head + 1) c.head_after-next.result rest))
          c.in_ok-halt.ensures.does.spoken;
    }

pub returns : goal.returns
returns g c =
    let game = c.args.game.now in
    let db = game.db in
    let along = rw c.in_default.is at c.loop-next.invariant.along in
    let none = ap (λ gs. automatic game gs c.loop-next.state c.loop-next.draws.left) (groups_for-none db 0) in
    record {
      does = record {
        spoken = along_done _ along (ap (λ w. w.events) none);
        tried = tallied_end [] (automatic game (groups_for db 0 (length db.actions)) c.loop-next.state c.loop-next.draws.left).events c.loop-next.tally
            (rw c.in_default.is at c.loop-next.invariant.tried) (ap (λ w. w.events) none) refl;
        left = along_value along ∙ ap (λ w. w.value) none;
      };
      taken = c.loop-next.invariant.taken;
      fits = c.loop-next.invariant.fits;
    }
