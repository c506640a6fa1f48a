use Rattle.std.proofs.lemmas.Result.{err_from_is_err_and}
use Rattle.std.proofs.Common.{◌≡◌, refl, sym, ap}
use Rattle.scott_rules.specs.Commands.{heard}
use Rattle.scott_rules.specs.Rounds.{advance, by_heard}
use Rattle.adv_io.proofs.Along.{steps_then, steps_stop}
use Rattle.scott_turn.proofs.Tallying.{tallied_then}
use Rattle.scott_turn.proofs.feeding.answer_and_advance.Goals as goal

pub returns : goal.returns
returns g c =
    let game = c.args.game.now in
    let a = by_heard (heard game.db c.args.line.now) game c.args.line.now c.args.state.now in
    let state : c.answer.new.state ≡ a.value.state = sym (ap (λ v. v.state) c.in_ok-position.ensures.does.left) in
    let position : c.in_ok-position.position ≡ a.value.position = sym (ap (λ v. v.position) c.in_ok-position.ensures.does.left) in
    record {
      does = record {
        spoken = steps_then a.events (advance game a.value.position a.value.state c.args.draws.now.left).events c.in_ok-position.ensures.does.spoken
            (rw (state, position) at c.advance.ensures.does.spoken);
        tried = tallied_then c.advance.result a.events (advance game a.value.position a.value.state c.args.draws.now.left).events c.args.tally.now c.advance.new.tally c.in_ok-position.ensures.does.tried (rw (state, position) at c.advance.ensures.does.tried);
        left = rw (state, position) at c.advance.ensures.does.left;
      };
      fits = c.advance.ensures.fits;
      taken = c.advance.ensures.taken;
    }

pub returns-in_err-position : goal.returns-in_err-position
returns-in_err-position g c =
    let game = c.args.game.now in
    let a = by_heard (heard game.db c.args.line.now) game c.args.line.now c.args.state.now in
    let p = err_from_is_err_and c.from_residual.result c.from_residual.ensures.1 in
    record {
      does = rw (p.1) (record {
        spoken = steps_stop p.0 a.events (advance game a.value.position a.value.state c.args.draws.now.left).events c.in_err-position.ensures.does.spoken;
        tried = tt;
        left = tt;
      });
      fits = c.answer.ensures.fits;
      taken = refl;
    }
