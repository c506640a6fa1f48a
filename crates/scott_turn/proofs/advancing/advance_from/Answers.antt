use Rattle.std.proofs.lemmas.Result.{IfOk-weaker, err_from_is_err_and}
use Rattle.scott_rules.specs.Groups.{groups_from, automatic}
use Rattle.scott_rules.specs.Rounds.{prompted}
use Rattle.adv_io.proofs.Along.{steps_then, steps_stop}
use Rattle.scott_turn.proofs.Prompts.{prompted-as_rules, prompted-left}
use Rattle.scott_turn.proofs.Tallying.{tallied-only, prompted-none}
use Rattle.scott_turn.proofs.advancing.advance_from.Goals as goal

pub automatic-requires : goal.automatic-requires
automatic-requires g c = c.requires

pub go_to_prompt-requires : goal.go_to_prompt-requires
go_to_prompt-requires g c = c.automatic.ensures.fits

pub returns : goal.returns
returns g c =
    let game = c.args.game.now in
    let t = automatic game (groups_from game.db c.args.from) c.args.state.now c.args.draws.now.left in
    record {
      does = record {
        spoken = steps_then t.events (prompted t.value.halt game t.value.state t.value.draws).events c.in_ok-halt.ensures.does.spoken
            (rw (prompted-as_rules game t.value c.automatic.new.state c.automatic.new.draws.left c.in_ok-halt.halt c.in_ok-halt.ensures.does.left) c.go_to_prompt.ensures.does.spoken);
        tried = tallied-only c.go_to_prompt.result t.events (prompted t.value.halt game t.value.state t.value.draws).events c.args.tally.now (prompted-none t.value.halt game t.value.state t.value.draws) c.in_ok-halt.ensures.does.tried;
        left = IfOk-weaker c.go_to_prompt.result _ _ (λ position left. prompted-left game t.value c.automatic.new.state c.automatic.new.draws.left c.in_ok-halt.halt c.in_ok-halt.ensures.does.left position c.go_to_prompt.new.state left) c.go_to_prompt.ensures.does.left;
      };
      taken = c.automatic.ensures.taken;
      fits = c.go_to_prompt.ensures.fits;
    }

pub returns-in_err-halt : goal.returns-in_err-halt
returns-in_err-halt g c =
    let game = c.args.game.now in
    let t = automatic game (groups_from game.db c.args.from) c.args.state.now c.args.draws.now.left in
    let p = err_from_is_err_and c.from_residual.result c.from_residual.ensures.1 in
    record {
      does = rw (p.1) (record {
        spoken = steps_stop p.0 t.events (prompted t.value.halt game t.value.state t.value.draws).events c.in_err-halt.ensures.does.spoken;
        tried = tt;
        left = tt;
      });
      taken = c.automatic.ensures.taken;
      fits = c.automatic.ensures.fits;
    }
