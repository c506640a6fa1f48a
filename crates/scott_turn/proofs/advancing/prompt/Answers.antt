use Rattle.std.proofs.Common.{refl}
use Rattle.std.proofs.lemmas.Result.{err_from_is_err_and}
use Rattle.scott_types.specs.declared.phrases.Phrase.TheVariants.{Prompt}
use Rattle.scott_types.specs.Phrase.{text_of}
use Rattle.scott_rules.specs.Rounds.{look_due}
use Rattle.adv_io.proofs.Along.{as_ok, as_err, texts_then, texts_stop}
use Rattle.scott_turn.proofs.advancing.prompt.Goals as goal

pub returns : goal.returns
returns g c = record {
  spoken = texts_then (look_due c.args.game.now c.args.state.now) (text_of Prompt) c.in_ok-look_if_due.ensures.spoken (as_ok _ (rw c.text.ensures at c.in_ok-say_text.ensures));
  state = c.look_if_due.ensures.state;
  position = refl;
  fits = c.look_if_due.ensures.fits;
}

pub returns-in_err-say_text : goal.returns-in_err-say_text
returns-in_err-say_text g c =
    let p = err_from_is_err_and c.from_residual-in_err-say_text.result c.from_residual-in_err-say_text.ensures.1 in
    record {
      spoken = rw (p.1) (texts_then (look_due c.args.game.now c.args.state.now) (text_of Prompt) c.in_ok-look_if_due.ensures.spoken (as_err p.0 (rw c.text.ensures at c.in_err-say_text.ensures)));
      state = c.look_if_due.ensures.state;
      position = rw (p.1) tt;
      fits = c.look_if_due.ensures.fits;
    }

pub returns-in_err-look_if_due : goal.returns-in_err-look_if_due
returns-in_err-look_if_due g c =
    let p = err_from_is_err_and c.from_residual.result c.from_residual.ensures.1 in
    record {
      spoken = rw (p.1) (texts_stop p.0 (look_due c.args.game.now c.args.state.now) (text_of Prompt) c.in_err-look_if_due.ensures.spoken);
      state = c.look_if_due.ensures.state;
      position = rw (p.1) tt;
      fits = c.look_if_due.ensures.fits;
    }
