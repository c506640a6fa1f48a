use Rattle.std.proofs.Common.{◌≡◌, ◌∙◌, sym, ap}
use Rattle.std.proofs.lemmas.Result.{err_from_is_err_and, IfOk-weaker}
use Rattle.scott_rules.specs.Rounds.{advance}
use Rattle.scott_turn.specs.Rounds.{is_prompt}
use Rattle.scott_turn.specs.Fed.{after_line}
use Rattle.adv_io.proofs.Along.{as_ok, steps_then, steps_stop}
use Rattle.scott_turn.proofs.Said.{said-none, said-some, said-prefix, left-none, left-some}
use Rattle.scott_turn.proofs.Tallying.{on_ok, tallied_then, tries-fed}
use Rattle.scott_turn.proofs.Playing.{go-ends}
use Rattle.scott_turn.specs.Tried.{tallied}
use Rattle.scott_turn.proofs.feeding.feed.Goals as goal

pub returns-in_err-reached-clause-spoken : goal.returns-in_err-reached-clause-spoken
returns-in_err-reached-clause-spoken g c =
    let p = err_from_is_err_and c.from_residual.result c.from_residual.ensures.1 in
    let up = (advance c.args.game.now c.args.position c.args.state.now c.args.draws.now.left).events in
    let prefix = said-prefix c.play_spends.ensures c.args.game.now c.args.position c.args.state.now c.args.draws.now.left c.args.line in
    rw (p.1, prefix.1) (steps_stop p.0 up prefix.0 c.in_err-reached.ensures.does.spoken)

pub returns-in-None-clause-spoken : goal.returns-in-None-clause-spoken
returns-in-None-clause-spoken g c =
    rw (c.in-None.is, ← said-none c.play_spends.ensures c.args.game.now c.args.position c.args.state.now c.args.draws.now.left)
    (as_ok _ c.in_ok-reached.ensures.does.spoken)

pub returns-in-None-clause-tried : goal.returns-in-None-clause-tried
returns-in-None-clause-tried g c =
    rw c.in-None.is (c.in_ok-reached.ensures.does.tried
    ∙ ap (λ w. tallied w.events c.args.tally.now) (sym (go-ends c.args.game.now c.args.position c.args.state.now c.args.draws.now.left)))

pub returns-in-None-clause-left : goal.returns-in-None-clause-left
returns-in-None-clause-left g c =
    rw c.in-None.is (left-none c.args.game.now c.args.position c.in_ok-reached.reached c.args.state.now c.advance.new.state c.args.draws.now.left c.advance.new.draws.left c.in_ok-reached.ensures.does.left)

pub returns-in-Some : goal.returns-in-Some
returns-in-Some g c =
    let game = c.args.game.now in
    let t = advance game c.args.position c.args.state.now c.args.draws.now.left in
    let line = c.in-Some.line.now in
    let reached : c.in_ok-reached.reached ≡ t.value.position = sym (ap (λ v. v.position) c.in_ok-reached.ensures.does.left) in
    let state : c.advance.new.state ≡ t.value.state = sym (ap (λ v. v.state) c.in_ok-reached.ensures.does.left) in
    let draws : c.advance.new.draws.left ≡ t.value.draws = sym (ap (λ v. v.draws) c.in_ok-reached.ensures.does.left) in
    let fed = after_line (is_prompt t.value.position) game line t.value.position t.value.state t.value.draws in
    record {
      spoken = rw (c.in-Some.is, ← said-some c.play_spends.ensures game c.args.position c.args.state.now c.args.draws.now.left line)
          (steps_then t.events fed.events c.in_ok-reached.ensures.does.spoken (rw (reached, state, draws) at c.feed_line.ensures.does.spoken));
      tried = rw c.in-Some.is
          (on_ok c.feed_line.result (λ t. t ∙ tries-fed game c.args.position c.args.state.now c.args.draws.now.left line c.args.tally.now)
          (tallied_then c.feed_line.result t.events fed.events c.args.tally.now c.feed_line.new.tally c.in_ok-reached.ensures.does.tried (rw (reached, state, draws) at c.feed_line.ensures.does.tried)));
      left = rw c.in-Some.is
          (IfOk-weaker c.feed_line.result _ _
          (λ q e. left-some game c.args.position q c.args.state.now c.feed_line.new.state c.args.draws.now.left c.feed_line.new.draws.left line e)
          (rw (reached, state, draws) at c.feed_line.ensures.does.left));
      taken = c.feed_line.ensures.taken ∙ c.advance.ensures.taken;
      fits = c.feed_line.ensures.fits;
    }
