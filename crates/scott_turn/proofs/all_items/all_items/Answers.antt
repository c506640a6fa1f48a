use Rattle.std.proofs.Common.{◌∙◌, ◌+◌, ◌<◌, ◌≤◌, [], length, drop, refl, sym, ap}
use Rattle.std.proofs.lemmas.Result.{err_from_is_err_and}
use Rattle.scott_rules.specs.Transfer.{all_items}
use Rattle.scott_turn.specs.ItemTurns.{taken_before, is_taken_by}
use Rattle.adv_io.proofs.Along.{as_ok, along_step, along_done, along_end, along_stop, along_value}
use Rattle.scott_turn.proofs.Items.{turn_of, after_item_turn, all_items-on, all_items-end, all_items-none, all_items-prefix}
use Rattle.scott_turn.proofs.Tallying.{tallied_on, tallied_end}
use Rattle.scott_turn.proofs.all_items.all_items.Goals as goal

pub do_item_turn-requires : goal.do_item_turn-requires
do_item_turn-requires g c = record {
  fits = c.loop-i.invariant.fits;
  there = rw (c.items-i-end.ensures.value, c.db.ensures) at c.loop-i-test.true;
}

pub returns-in_err-item_turn : goal.returns-in_err-item_turn
returns-in_err-item_turn g c =
    let game = c.args.game.now in
    let i = c.loop-i.i in
    let there : i < length game.db.items = rw (c.items-i-end.ensures.value, c.db.ensures) at c.loop-i-test.true in
    let t = turn_of c.args.transfer game c.args.typed.now i c.loop-i.state in
    let p = err_from_is_err_and c.from_residual.result c.from_residual.ensures.1 in
    record {
      does = rw (p.1) (record {
        spoken = along_stop p.0 t.events (after_item_turn t.value.item_turn t (all_items c.args.transfer game c.args.typed.now (i + 1) (drop (i + 1) game.db.items))) c.loop-i.invariant.along
            (all_items-prefix c.args.transfer game c.args.typed.now i c.loop-i.state there c.loop-i.any_taken)
            c.in_err-item_turn.ensures.does.spoken;
        tried = tt;
        left = tt;
      });
      fits = c.do_item_turn.ensures.fits;
    }

pub returns-then-ends_all : goal.returns-then-ends_all
returns-then-ends_all g c =
    let game = c.args.game.now in
    let i = c.loop-i.i in
    let there : i < length game.db.items = rw (c.items-i-end.ensures.value, c.db.ensures) at c.loop-i-test.true in
    let last = all_items-end c.args.transfer game c.args.typed.now i c.loop-i.state there c.in_ok-item_turn.item_turn c.loop-i.any_taken c.do_item_turn.new.state c.in_ok-item_turn.ensures.does.left (sym c.if-ends_all.ensures) in
    record {
      does = record {
        spoken = along_end (turn_of c.args.transfer game c.args.typed.now i c.loop-i.state).events c.loop-i.invariant.along (ap (λ w. w.events) last) (as_ok _ c.in_ok-item_turn.ensures.does.spoken);
        tried = tallied_end (turn_of c.args.transfer game c.args.typed.now i c.loop-i.state).events (taken_before c.loop-i.any_taken (all_items c.args.transfer game c.args.typed.now i (drop i game.db.items) c.loop-i.state)).events c.loop-i.tally
            c.loop-i.invariant.tried (ap (λ w. w.events) last) c.in_ok-item_turn.ensures.does.tried;
        left = along_value c.loop-i.invariant.along ∙ ap (λ w. w.value) last ∙ rw c.over_in.ensures refl;
      };
      fits = c.do_item_turn.ensures.fits;
    }

pub loop-i-preserved : goal.loop-i-preserved
loop-i-preserved g c =
    let game = c.args.game.now in
    let i = c.loop-i.i in
    let there : i < length game.db.items = rw (c.items-i-end.ensures.value, c.db.ensures) at c.loop-i-test.true in
    record {
      few = c.loop-i.invariant.few;
      tried = rw c.is_taken_by-any_taken.ensures
          (tallied_on (turn_of c.args.transfer game c.args.typed.now i c.loop-i.state).events
          (taken_before (is_taken_by c.in_ok-item_turn.item_turn c.loop-i.any_taken) (all_items c.args.transfer game c.args.typed.now (i + 1) (drop (i + 1) game.db.items) c.do_item_turn.new.state)).events
          (taken_before c.loop-i.any_taken (all_items c.args.transfer game c.args.typed.now i (drop i game.db.items) c.loop-i.state)).events c.loop-i.tally
          c.loop-i.invariant.tried
          (ap (λ w. w.events) (all_items-on c.args.transfer game c.args.typed.now i c.loop-i.state there c.in_ok-item_turn.item_turn c.loop-i.any_taken c.do_item_turn.new.state c.in_ok-item_turn.ensures.does.left (sym c.if-ends_all.ensures)))
          c.in_ok-item_turn.ensures.does.tried);
      fits = c.do_item_turn.ensures.fits;
      along = rw c.is_taken_by-any_taken.ensures
          (along_step (turn_of c.args.transfer game c.args.typed.now i c.loop-i.state).events
          (taken_before (is_taken_by c.in_ok-item_turn.item_turn c.loop-i.any_taken) (all_items c.args.transfer game c.args.typed.now (i + 1) (drop (i + 1) game.db.items) c.do_item_turn.new.state)) c.loop-i.invariant.along
          (all_items-on c.args.transfer game c.args.typed.now i c.loop-i.state there c.in_ok-item_turn.item_turn c.loop-i.any_taken c.do_item_turn.new.state c.in_ok-item_turn.ensures.does.left (sym c.if-ends_all.ensures))
          c.in_ok-item_turn.ensures.does.spoken);
    }

pub returns : goal.returns
returns g c =
    let game = c.args.game.now in
    let i = c.loop-i.i in
    let past : length game.db.items ≤ i = rw (c.items-i-end.ensures.value, c.db.ensures) at c.loop-i-test.false in
    let none = all_items-none c.args.transfer game c.args.typed.now i c.loop-i.state past c.loop-i.any_taken in
    record {
      does = record {
        spoken = along_done _ c.loop-i.invariant.along (ap (λ w. w.events) none);
        tried = tallied_end [] (taken_before c.loop-i.any_taken (all_items c.args.transfer game c.args.typed.now i (drop i game.db.items) c.loop-i.state)).events c.loop-i.tally
            c.loop-i.invariant.tried (ap (λ w. w.events) none) refl;
        left = along_value c.loop-i.invariant.along ∙ ap (λ w. w.value) none;
      };
      fits = c.loop-i.invariant.fits;
    }
