use Rattle.std.proofs.Common.{◌≡◌, ◌++◌, drop}
use Rattle.trans_data.proofs.state_tables.places.Given as goal

-- the places before, and those to come, are all
abbrev pub invariant-loop-place : goal.invariant-loop-place
invariant-loop-place l = l.places ≡ l.numbers.items ++ drop l.place-index l.places
