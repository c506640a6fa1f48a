use Rattle.std.proofs.Common.{◌∙◌, refl, sym, ap}
use Rattle.adv_draws.specs.Supply.{supplied}
use Rattle.scott_turn.specs.Heads.{group_at}
use Rattle.scott_turn.proofs.Entering.{turn_does, turn_draws, turn_waits, waiting_says, one_taken}
use Rattle.scott_turn.specs.Tried.{tallied}
use Rattle.scott_turn.proofs.automatic.auto_turn.Goals as goal

pub returns-in-Some : goal.returns-in-Some
returns-in-Some g c =
    let game = c.args.game.now in
    let group = group_at game.db c.args.head in
    let s = c.args.state.now in
    let before = c.args.draws.now in
    let now = c.next.new.self in
    let draw = c.in-Some.draw in
    let given = c.in-Some.ensures.given in
    record {
      does = turn_does game group s before.left now.left draw given c.enter.result c.enter.new.state c.args.tally.now c.enter.new.tally c.enter.ensures.does;
      draws = turn_draws game group s before.left now.left draw given;
      taken = one_taken before now draw given c.in-Some.ensures.counted;
      fits = c.enter.ensures.fits;
    }

pub returns-in-None : goal.returns-in-None
returns-in-None g c =
    let game = c.args.game.now in
    let group = group_at game.db c.args.head in
    let s = c.args.state.now in
    let draws = c.args.draws.now.left in
    let none = c.in-None.ensures.none.0 refl in
    let waits = sym (turn_waits game group s draws none) in
    record {
      does = record {
        spoken = waiting_says game group s draws none (g.C.Console.seen c.args.console.now);
        tried = ap (λ t. tallied t.events c.args.tally.now) waits;
        left = rw (ap (λ d. d.left) c.in-None.ensures.unchanged ∙ none) (ap (λ t. t.value) (turn_waits game group s draws none));
      };
      draws = ap (λ d. d.left) c.in-None.ensures.unchanged ∙ none ∙ ap (λ t. t.value.draws) waits;
      taken = ap supplied c.in-None.ensures.unchanged;
      fits = c.requires.fits;
    }
