use Rattle.std.proofs.Common.{refl}
use Rattle.std.proofs.lemmas.Result.{IfOk-weaker}
use Rattle.scott_turn.proofs.choosing.transfer_one.Goals as goal

pub returns-in-None : goal.returns-in-None
returns-in-None g c = record {
  does = rw c.in-None.is (record {
    spoken = rw c.text.ensures at c.say_only.ensures.spoken;
    left = IfOk-weaker c.say_only.result _ _ (λ over is. rw is refl) c.say_only.ensures.over;
  });
  fits = c.requires.fits;
}

pub move_named-requires : goal.move_named-requires
move_named-requires g c = record { fits = c.requires.fits; there = rw c.in-Some.is at c.requires.there }

pub returns-in-Some : goal.returns-in-Some
returns-in-Some g c = record {
  does = rw c.in-Some.is c.move_named.ensures.does;
  fits = c.move_named.ensures.fits;
}
