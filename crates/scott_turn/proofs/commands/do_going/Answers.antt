use Rattle.std.proofs.Common.{◌≡◌, ◌∙◌, true, false, refl, sym}
use Rattle.std.proofs.lemmas.Result.{IfOk-weaker}
use Rattle.scott_rules.specs.Commands.{is_direction}
use Rattle.scott_turn.proofs.Tallying.{tallied-none, noted-said, walk-none}
use Rattle.scott_rules.specs.Rounds.{walk_result}
use Rattle.scott_types.specs.declared.phrases.Phrase.TheVariants.{NeedDirection}
use Rattle.scott_types.specs.Phrase.{text_of}
use Rattle.adv_io.specs.Steps.{said_steps}
use Rattle.scott_turn.proofs.commands.do_going.Goals as goal

pub returns-in-None : goal.returns-in-None
returns-in-None g c = record {
  does = rw c.in-None.is (record {
    spoken = rw c.text.ensures at c.say_only.ensures.spoken;
    tried = tallied-none c.say_only.result (said_steps (text_of NeedDirection)) c.args.tally.now (noted-said (text_of NeedDirection));
    left = IfOk-weaker c.say_only.result _ _ (λ over is. rw is refl) c.say_only.ensures.over;
  });
  fits = c.requires.fits;
}

pub returns-then-is_direction : goal.returns-then-is_direction
returns-then-is_direction g c =
    let direction : is_direction c.in-Some.noun ≡ true = sym c.is_direction.ensures ∙ c.if-is_direction.true in
    record {
      does = rw (c.in-Some.is, direction) (record {
        spoken = c.walk.ensures.does.spoken;
        tried = tallied-none c.walk.result (walk_result c.args.game.now c.in-Some.noun c.args.state.now).events c.args.tally.now (walk-none c.args.game.now c.in-Some.noun c.args.state.now);
        left = c.walk.ensures.does.left;
      });
      fits = c.walk.ensures.fits;
    }

pub returns-else-is_direction : goal.returns-else-is_direction
returns-else-is_direction g c =
    let other : is_direction c.in-Some.noun ≡ false = sym c.is_direction.ensures ∙ c.if-is_direction.false in
    record {
      does = rw (c.in-Some.is, other) c.do_by_actions.ensures.does;
      fits = c.do_by_actions.ensures.fits;
    }
