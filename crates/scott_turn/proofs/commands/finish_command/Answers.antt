use Rattle.std.proofs.Common.{refl}
use Rattle.adv_io.proofs.Sayings.{nothing_said}
use Rattle.scott_turn.proofs.commands.finish_command.Goals as goal

pub do_unmatched-requires : goal.do_unmatched-requires
do_unmatched-requires g c = record { fits = c.requires.fits; there = c.requires.there }

pub do_unmatched-requires-in-NoMatch : goal.do_unmatched-requires-in-NoMatch
do_unmatched-requires-in-NoMatch g c = record { fits = c.requires.fits; there = c.requires.there }

pub returns-in-Over : goal.returns-in-Over
returns-in-Over g c = record {
  does = rw c.in-Over.is (record { spoken = nothing_said _ _; tried = refl; left = refl });
  fits = c.requires.fits;
}

pub returns-in-Done : goal.returns-in-Done
returns-in-Done g c = record {
  does = rw c.in-Done.is (record { spoken = nothing_said _ _; tried = refl; left = refl });
  fits = c.requires.fits;
}

pub returns-in-Matched : goal.returns-in-Matched
returns-in-Matched g c = record {
  does = rw c.in-Matched.is c.do_unmatched.ensures.does;
  fits = c.do_unmatched.ensures.fits;
}

pub returns-in-NoMatch : goal.returns-in-NoMatch
returns-in-NoMatch g c = record {
  does = rw c.in-NoMatch.is c.do_unmatched-in-NoMatch.ensures.does;
  fits = c.do_unmatched-in-NoMatch.ensures.fits;
}
