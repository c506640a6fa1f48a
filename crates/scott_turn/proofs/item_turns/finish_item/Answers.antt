use Rattle.std.proofs.Common.{refl}
use Rattle.adv_io.proofs.Sayings.{nothing_said}
use Rattle.scott_turn.proofs.item_turns.finish_item.Goals as goal

pub returns-in-Some : goal.returns-in-Some
returns-in-Some g c = record {
  does = rw c.in-Some.is (record { spoken = nothing_said _ _; left = refl });
  fits = c.requires.fits;
}

pub returns-in-None : goal.returns-in-None
returns-in-None g c = record {
  does = rw c.in-None.is c.move_taken.ensures.does;
  fits = c.move_taken.ensures.fits;
}
