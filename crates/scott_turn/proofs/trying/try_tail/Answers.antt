use Rattle.std.proofs.Common.{◌∙◌, ◌+◌, [], refl, sym, ap}
use Rattle.std.proofs.lemmas.Result.{err_from_is_err_and}
use Rattle.scott_rules.specs.Groups.{tail_action, tail_tried}
use Rattle.scott_turn.specs.Heads.{tail_from}
use Rattle.scott_turn.proofs.Showing.{after_part}
use Rattle.adv_io.proofs.Along.{along_step, along_done, along_end, along_stop, along_value}
use Rattle.scott_turn.proofs.Tries.{tail-on, tail-over, tail-prefix}
use Rattle.scott_turn.proofs.Tallying.{tallied_on, tallied_end}
use Rattle.scott_turn.proofs.trying.try_tail.Goals as goal

pub returns-in_err-over : goal.returns-in_err-over
returns-in_err-over g c =
    let game = c.args.game.now in
    let noun = c.args.noun.now in
    let line = c.loop-state.line in
    let t = tail_action game noun line c.loop-state.state in
    let p = err_from_is_err_and c.from_residual.result c.from_residual.ensures.1 in
    record {
      does = rw (p.1) (record {
        spoken = along_stop p.0 t.events (after_part t.value.over t (tail_tried game noun (tail_from game.db (line + 1)))) c.loop-state.invariant.along
            (tail-prefix game noun line c.loop-state.state (rw c.db-in-loop-state.ensures at c.loop-state-test.ensures.1))
            c.in_err-over.ensures.does.spoken;
        tried = tt;
        left = tt;
      });
      fits = c.try_tail_action.ensures.fits;
    }

pub returns-then-is_some : goal.returns-then-is_some
returns-then-is_some g c =
    let game = c.args.game.now in
    let noun = c.args.noun.now in
    let line = c.loop-state.line in
    let t = tail_action game noun line c.loop-state.state in
    let last = tail-over game noun line c.loop-state.state c.in_ok-over.over (sym (ap (λ v. v.over) c.in_ok-over.ensures.does.left)) (rw c.db-in-loop-state.ensures at c.loop-state-test.ensures.1) (sym c.if-is_some.ensures) in
    let whole = along_value c.loop-state.invariant.along ∙ ap (λ w. w.value) last in
    record {
      does = record {
        spoken = along_end t.events c.loop-state.invariant.along (ap (λ w. w.events) last) c.in_ok-over.ensures.does.spoken;
        tried = tallied_end t.events (tail_tried game noun (tail_from game.db line) c.loop-state.state).events c.loop-state.tally c.loop-state.invariant.tried (ap (λ w. w.events) last) c.in_ok-over.ensures.does.tried;
        left = whole ∙ c.in_ok-over.ensures.does.left;
      };
      fits = c.try_tail_action.ensures.fits;
    }

pub loop-state-preserved : goal.loop-state-preserved
loop-state-preserved g c =
    let game = c.args.game.now in
    let noun = c.args.noun.now in
    let line = c.loop-state.line in
    let t = tail_action game noun line c.loop-state.state in
    record {
      few = c.loop-state.invariant.few;
      tried = tallied_on t.events (tail_tried game noun (tail_from game.db (line + 1)) c.try_tail_action.new.state).events (tail_tried game noun (tail_from game.db line) c.loop-state.state).events c.loop-state.tally c.loop-state.invariant.tried
          (ap (λ w. w.events) (tail-on game noun line c.loop-state.state c.in_ok-over.over (sym (ap (λ v. v.over) c.in_ok-over.ensures.does.left)) (rw c.db-in-loop-state.ensures at c.loop-state-test.ensures.1) (sym c.if-is_some.ensures) c.try_tail_action.new.state (sym (ap (λ v. v.state) c.in_ok-over.ensures.does.left))))
          c.in_ok-over.ensures.does.tried;
      fits = c.try_tail_action.ensures.fits;
      along = along_step t.events (tail_tried game noun (tail_from game.db (line + 1)) c.try_tail_action.new.state) c.loop-state.invariant.along
          (tail-on game noun line c.loop-state.state c.in_ok-over.over (sym (ap (λ v. v.over) c.in_ok-over.ensures.does.left)) (rw c.db-in-loop-state.ensures at c.loop-state-test.ensures.1) (sym c.if-is_some.ensures) c.try_tail_action.new.state (sym (ap (λ v. v.state) c.in_ok-over.ensures.does.left)))
          c.in_ok-over.ensures.does.spoken;
    }

pub returns : goal.returns
returns g c =
    let game = c.args.game.now in
    let noun = c.args.noun.now in
    let line = c.loop-state.line in
    let none = ap (λ lines. tail_tried game noun lines c.loop-state.state) (rw c.db-in-loop-state.ensures at c.loop-state-test.ensures) in
    let whole = along_value c.loop-state.invariant.along ∙ ap (λ w. w.value) none in
    record {
      does = record {
        spoken = along_done _ c.loop-state.invariant.along (ap (λ w. w.events) none);
        tried = tallied_end [] (tail_tried game noun (tail_from game.db line) c.loop-state.state).events c.loop-state.tally c.loop-state.invariant.tried (ap (λ w. w.events) none) refl;
        left = whole;
      };
      fits = c.loop-state.invariant.fits;
    }
