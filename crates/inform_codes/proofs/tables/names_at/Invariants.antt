use Rattle.std.proofs.Common.{◌≡◌, ◌++◌, drop, map}
use Rattle.inform_codes.specs.Codes.{name_in}
use Rattle.inform_codes.proofs.tables.names_at.Given as goal

-- the names so far, and those to come, are all of them
abbrev pub invariant-loop-at : goal.invariant-loop-at
invariant-loop-at l =
    map (name_in (map (λ n. n.now) l.names)) l.places
    ≡ l.found.items ++ map (name_in (map (λ n. n.now) l.names)) (drop l.at-index l.places)
