use Rattle.std.proofs.Common.{◌≡◌, ◌∙◌, ◌+◌, true, refl, sym, ap}
use Rattle.scott_types.specs.declared.endings.Ran.TheVariants.{Passed}
use Rattle.scott_rules.specs.Actions.{try_action}
use Rattle.scott_rules.specs.Groups.{tail_tried}
use Rattle.scott_turn.specs.Heads.{tail_from, group_at}
use Rattle.adv_io.proofs.Along.{as_ok, as_err, steps_then, steps_stop}
use Rattle.scott_turn.proofs.Tries.{group-goes_on, group-prefix, tail_steps}
use Rattle.scott_turn.proofs.Tallying.{tallied_both}
use Rattle.scott_turn.proofs.trying.try_group.Goals as goal

pub returns-in-Ok-try_tail : goal.returns-in-Ok-try_tail
returns-in-Ok-try_tail g c =
    let game = c.args.game.now in
    let noun = c.args.noun.now in
    let t = try_action game noun c.args.head c.args.state.now in
    let head = c.in-Ok-Passed-true.ensures.does in
    let on : t.value.ran ≡ Passed true = ap (λ v. v.ran) head.left ∙ c.in-Ok-Passed-true.field-0-is ∙ ap Passed c.in-Ok-Passed-true.field-0-0-test in
    let state : c.try_action.new.state ≡ t.value.state = sym (ap (λ v. v.state) head.left) in
    let rest = tail_tried game noun (tail_from game.db (c.args.head + 1)) t.value.state in
    let tail = rw state at c.in-Ok-try_tail.ensures.does in
    record {
      does = rw (group-goes_on game noun (group_at game.db c.args.head) c.args.state.now on) (record {
        spoken = steps_then t.events rest.events head.spoken (as_ok _ tail.spoken);
        tried = tallied_both t.events rest.events c.args.tally.now head.tried tail.tried;
        left = rw (tail.left, c.with_tail.ensures) refl;
      });
      fits = c.try_tail.ensures.fits;
    }

pub returns-in-Err-try_tail : goal.returns-in-Err-try_tail
returns-in-Err-try_tail g c =
    let game = c.args.game.now in
    let noun = c.args.noun.now in
    let t = try_action game noun c.args.head c.args.state.now in
    let on : t.value.ran ≡ Passed true = ap (λ v. v.ran) c.in-Ok-Passed-true.ensures.does.left ∙ c.in-Ok-Passed-true.field-0-is ∙ ap Passed c.in-Ok-Passed-true.field-0-0-test in
    record {
      does = record {
        spoken = rw (group-goes_on game noun (group_at game.db c.args.head) c.args.state.now on)
            (steps_then t.events (tail_tried game noun (tail_from game.db (c.args.head + 1)) t.value.state).events
            c.in-Ok-Passed-true.ensures.does.spoken
            (as_err _ (rw (sym (ap (λ v. v.state) c.in-Ok-Passed-true.ensures.does.left)) at c.in-Err-try_tail.ensures.does.spoken)));
        tried = tt;
        left = tt;
      };
      fits = c.try_tail.ensures.fits;
    }

pub returns-in-Err : goal.returns-in-Err
returns-in-Err g c =
    let game = c.args.game.now in
    let noun = c.args.noun.now in
    let t = try_action game noun c.args.head c.args.state.now in
    record {
      does = record {
        spoken = rw (group-prefix game noun (group_at game.db c.args.head) c.args.state.now)
            (steps_stop c.in-Err.fault t.events (tail_steps t.value.ran game noun (group_at game.db c.args.head) t) c.in-Err.ensures.does.spoken);
        tried = tt;
        left = tt;
      };
      fits = c.try_action.ensures.fits;
    }
