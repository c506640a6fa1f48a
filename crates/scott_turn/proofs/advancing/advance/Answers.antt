use Rattle.std.proofs.Common.{refl}
use Rattle.adv_io.proofs.Sayings.{nothing_said}
use Rattle.scott_turn.proofs.advancing.advance.Goals as goal

pub returns-in-Fresh : goal.returns-in-Fresh
returns-in-Fresh g c = record {
  does = rw c.in-Fresh.is c.begin.ensures.does;
  taken = c.begin.ensures.taken;
  fits = c.begin.ensures.fits;
}

pub returns-in-Draw : goal.returns-in-Draw
returns-in-Draw g c = record {
  does = rw c.in-Draw.is c.advance_from.ensures.does;
  taken = c.advance_from.ensures.taken;
  fits = c.advance_from.ensures.fits;
}

pub returns-in-Line : goal.returns-in-Line
returns-in-Line g c = record {
  does = rw c.in-Line.is (record { spoken = nothing_said _ _; tried = refl; left = refl });
  taken = refl;
  fits = c.requires;
}

pub returns-in-Over : goal.returns-in-Over
returns-in-Over g c = record {
  does = rw c.in-Over.is (record { spoken = nothing_said _ _; tried = refl; left = refl });
  taken = refl;
  fits = c.requires;
}
