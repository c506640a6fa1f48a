use Rattle.std.proofs.Common.{◌≡◌, ◌∙◌, true, false, refl, sym}
use Rattle.std.proofs.lemmas.Result.{IfOk-weaker}
use Rattle.scott_rules.specs.Transfer.{is_too_dark}
use Rattle.scott_turn.proofs.Tallying.{tallied-none, noted-said}
use Rattle.scott_types.specs.declared.phrases.Phrase.TheVariants.{DarkGet}
use Rattle.scott_types.specs.Phrase.{text_of}
use Rattle.adv_io.specs.Steps.{said_steps}
use Rattle.scott_turn.proofs.all_items.transfer_all.Goals as goal

pub returns-then-is_too_dark : goal.returns-then-is_too_dark
returns-then-is_too_dark g c =
    let dark : is_too_dark c.args.transfer c.args.state.now ≡ true = sym c.is_too_dark.ensures ∙ c.if-is_too_dark.true in
    record {
      does = rw dark (record {
        spoken = rw c.text.ensures at c.say_only.ensures.spoken;
        tried = tallied-none c.say_only.result (said_steps (text_of DarkGet)) c.args.tally.now (noted-said (text_of DarkGet));
        left = IfOk-weaker c.say_only.result _ _ (λ over is. rw is refl) c.say_only.ensures.over;
      });
      fits = c.requires;
    }

pub returns-else-is_too_dark : goal.returns-else-is_too_dark
returns-else-is_too_dark g c =
    let light : is_too_dark c.args.transfer c.args.state.now ≡ false = sym c.is_too_dark.ensures ∙ c.if-is_too_dark.false in
    record {
      does = rw light c.transfer_all_items.ensures.does;
      fits = c.transfer_all_items.ensures.fits;
    }
