use Rattle.std.proofs.Common.{refl}
use Rattle.std.proofs.lemmas.Result.{IfOk-weaker}
use Rattle.scott_turn.proofs.choosing.move_one.Goals as goal

pub returns-in-None : goal.returns-in-None
returns-in-None g c = record {
  does = rw c.in-None.is (record {
    spoken = rw (c.text_in.ensures, c.style.ensures) at c.say_only.ensures.spoken;
    left = IfOk-weaker c.say_only.result _ _ (λ over is. rw is refl) c.say_only.ensures.over;
  });
  fits = c.requires.fits;
}

pub returns-in-Some : goal.returns-in-Some
returns-in-Some g c = record {
  does = record {
    spoken = rw c.in-Some.is (rw c.text.ensures at c.say_only-in-Some.ensures.spoken);
    left = rw (c.in-Some.is, c.transfer_item.ensures.state) (IfOk-weaker c.say_only-in-Some.result _ _ (λ over is. rw is refl) c.say_only-in-Some.ensures.over);
  };
  fits = rw c.db.ensures at c.transfer_item.ensures.fits;
}
