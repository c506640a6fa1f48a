use Rattle.std.proofs.Common.{◌∙◌, ◌+◌, [], length, refl, sym, ap}
use Rattle.scott_types.specs.Action.{verb_of}
use Rattle.scott_types.specs.Database.{action_at}
use Rattle.std.proofs.lemmas.Result.{err_from_is_err_and}
use Rattle.adv_io.specs.Steps.{after}
use Rattle.scott_rules.specs.Search.{is_for_noun, search_result}
use Rattle.scott_turn.specs.Heads.{group_at, groups_for, line_of, IsFirst}
use Rattle.scott_turn.specs.Turns.{search_turn, at_least, with_before}
use Rattle.adv_io.proofs.Along.{along_start, along_step, along_done, along_end, along_stop, along_value}
use Rattle.scott_turn.proofs.Groups.{verb_of_head, vocab_of_head, comes_here, head_found, groups_for-found, groups_for-none, fewer_lines}
use Rattle.scott_turn.proofs.Turning.{search_result-for, search_result-on, search_result-end, search_result-none, search_result-prefix, at_least-begun, after_turn, noun_at}
use Rattle.scott_turn.proofs.Tallying.{tallied_on, tallied_end}
use Rattle.scott_turn.proofs.searching.search.Goals as goal

pub loop-next-init : goal.loop-next-init
loop-next-init g c =
    let game = c.args.game.now in
    let verb = c.args.command.verb in
    record {
      at_head = head_found game.db verb 0 c.first_head-next.result c.first_head-next.ensures;
      fits = c.requires;
      begun = refl;
      tried = rw (search_result-for game c.args.typed.now verb c.args.command.noun c.args.state.now, groups_for-found game.db verb 0 c.first_head-next.result c.first_head-next.ensures) refl;
      along = rw (search_result-for game c.args.typed.now verb c.args.command.noun c.args.state.now, groups_for-found game.db verb 0 c.first_head-next.result c.first_head-next.ensures) (along_start _ _);
    }

pub returns-in_err-found-clause-does : goal.returns-in_err-found-clause-does
returns-in_err-found-clause-does g c =
    let game = c.args.game.now in
    let typed = c.args.typed.now in
    let verb = c.args.command.verb in
    let noun = c.args.command.noun in
    let head = c.in-Some.head in
    let t = search_turn (is_for_noun (noun_at game head) noun) game typed (group_at game.db head) c.loop-next.state in
    let p = err_from_is_err_and c.from_residual.result c.from_residual.ensures.1 in
    let comes = comes_here game.db verb head (rw c.in-Some.is at c.loop-next.invariant.at_head) in
    rw (p.1) (record {
      spoken = along_stop p.0 t.events (after_turn t.value.found t (search_result game typed verb noun (groups_for game.db verb (head + 1)))) (rw c.in-Some.is at c.loop-next.invariant.along)
          (search_result-prefix game typed verb noun head head c.loop-next.state comes c.loop-next.before)
          c.in_err-found.ensures.does.spoken;
      tried = tt;
      left = tt;
    })

pub returns-then-ends_search-clause-does : goal.returns-then-ends_search-clause-does
returns-then-ends_search-clause-does g c =
    let game = c.args.game.now in
    let typed = c.args.typed.now in
    let verb = c.args.command.verb in
    let noun = c.args.command.noun in
    let head = c.in-Some.head in
    let t = search_turn (is_for_noun (noun_at game head) noun) game typed (group_at game.db head) c.loop-next.state in
    let comes = comes_here game.db verb head (rw c.in-Some.is at c.loop-next.invariant.at_head) in
    let along = rw c.in-Some.is at c.loop-next.invariant.along in
    let last = search_result-end game typed verb noun head head c.loop-next.state comes c.in_ok-found.found c.loop-next.before (sym (ap (λ v. v.found) c.in_ok-found.ensures.does.left)) (sym c.if-ends_search.ensures) in
    record {
      spoken = along_end t.events along (ap (λ w. w.events) last) c.in_ok-found.ensures.does.spoken;
      tried = tallied_end t.events (with_before c.loop-next.before (search_result game typed verb noun (groups_for game.db verb head) c.loop-next.state)).events c.loop-next.tally
          (rw c.in-Some.is at c.loop-next.invariant.tried) (ap (λ w. w.events) last) c.in_ok-found.ensures.does.tried;
      left = along_value along ∙ ap (λ w. w.value) last ∙ c.in_ok-found.ensures.does.left;
    }

pub search_turn-requires : goal.search_turn-requires
search_turn-requires g c = record {
  fits = c.loop-next.invariant.fits;
  there = (rw c.in-Some.is at c.loop-next.invariant.at_head).0;
}

pub head_after-next-requires : goal.head_after-next-requires
head_after-next-requires g c =
    let at = rw c.in-Some.is at c.loop-next.invariant.at_head in
    record { there = at.0; head = vocab_of_head c.args.command.verb (action_at c.args.game.now.db c.in-Some.head) (at.1) }

pub loop-next-smaller : goal.loop-next-smaller
loop-next-smaller g c =
    let db = c.args.game.now.db in
    let head = c.in-Some.head in
    rw c.in-Some.is
    (fewer_lines db (verb_of (action_at db head).vocab) head c.head_after-next.result ((rw c.in-Some.is at c.loop-next.invariant.at_head).0) c.head_after-next.ensures)

pub loop-next-preserved : goal.loop-next-preserved
loop-next-preserved g c =
    let game = c.args.game.now in
    let typed = c.args.typed.now in
    let verb = c.args.command.verb in
    let noun = c.args.command.noun in
    let head = c.in-Some.head in
    let t = search_turn (is_for_noun (noun_at game head) noun) game typed (group_at game.db head) c.loop-next.state in
    let found = c.in_ok-found.found in
    let before = c.loop-next.before in
    let comes = comes_here game.db verb head (rw c.in-Some.is at c.loop-next.invariant.at_head) in
    let rest : IsFirst game.db verb (head + 1) c.head_after-next.result = rw (verb_of_head verb (action_at game.db head) comes.is_head) at c.head_after-next.ensures in
    record {
      at_head = head_found game.db verb (head + 1) c.head_after-next.result rest;
      fits = c.search_turn.ensures.fits;
      tried = rw c.at_least-before.ensures
          (tallied_on t.events (with_before (at_least found before) (search_result game typed verb noun (groups_for game.db verb (line_of game.db c.head_after-next.result)) c.search_turn.new.state)).events
          (with_before before (search_result game typed verb noun (groups_for game.db verb head) c.loop-next.state)).events c.loop-next.tally
          (rw c.in-Some.is at c.loop-next.invariant.tried)
          (ap (λ w. w.events) (search_result-on game typed verb noun head head c.loop-next.state comes found before (sym (ap (λ v. v.found) c.in_ok-found.ensures.does.left)) (sym c.if-ends_search.ensures) c.loop-next.invariant.begun
          c.search_turn.new.state (sym (ap (λ v. v.state) c.in_ok-found.ensures.does.left))
          ∙ ap (λ gs. after t.events (with_before (at_least found before) (search_result game typed verb noun gs c.search_turn.new.state))) (groups_for-found game.db verb (head + 1) c.head_after-next.result rest)))
          c.in_ok-found.ensures.does.tried);
      begun = rw c.at_least-before.ensures (at_least-begun found before (sym c.if-ends_search.ensures) c.loop-next.invariant.begun);
      along = rw c.at_least-before.ensures
          (along_step t.events (with_before (at_least found before) (search_result game typed verb noun (groups_for game.db verb (line_of game.db c.head_after-next.result)) c.search_turn.new.state)) (rw c.in-Some.is at c.loop-next.invariant.along)
          (search_result-on game typed verb noun head head c.loop-next.state comes found before (sym (ap (λ v. v.found) c.in_ok-found.ensures.does.left)) (sym c.if-ends_search.ensures) c.loop-next.invariant.begun
          c.search_turn.new.state (sym (ap (λ v. v.state) c.in_ok-found.ensures.does.left))
          ∙ ap (λ gs. after t.events (with_before (at_least found before) (search_result game typed verb noun gs c.search_turn.new.state))) (groups_for-found game.db verb (head + 1) c.head_after-next.result rest))
          c.in_ok-found.ensures.does.spoken);
    }

pub returns : goal.returns
returns g c =
    let game = c.args.game.now in
    let verb = c.args.command.verb in
    let along = rw c.in_default.is at c.loop-next.invariant.along in
    let none = search_result-none game c.args.typed.now verb c.args.command.noun (length game.db.actions) c.loop-next.state c.loop-next.before (groups_for-none game.db verb) c.loop-next.invariant.begun in
    record {
      does = record {
        spoken = along_done _ along (ap (λ w. w.events) none);
        tried = tallied_end [] (with_before c.loop-next.before (search_result game c.args.typed.now verb c.args.command.noun (groups_for game.db verb (length game.db.actions)) c.loop-next.state)).events c.loop-next.tally
            (rw c.in_default.is at c.loop-next.invariant.tried) (ap (λ w. w.events) none) refl;
        left = along_value along ∙ ap (λ w. w.value) none;
      };
      fits = c.loop-next.invariant.fits;
    }
