-- A line whose number is noted.
use Rattle.std.proofs.Common.{arith, refl}
use Rattle.inform_logic.specs.Leading.{by_return}
use Rattle.inform_logic.specs.Worked.{LineIsNoted}
use Rattle.inform_logic.proofs.Values.{number, called}
use Rattle.inform_logic.proofs.Statements.{next, returns, call_alone, return}
use Rattle.inform_logic.proofs.Routines.{does_within, noted_routine}
use Rattle.inform_logic.proofs.Carried.{carried_is_counted}

pub line_is_noted : LineIsNoted
line_is_noted p d w places m small notes has there = does_within (omega arith)
    (noted_routine notes refl
    (next (call_alone (called (carried_is_counted p d _ places small has there)))
    (returns (return number))) by_return)
