use Rattle.std.proofs.Common.{◌≡◌, ◌+◌, length}
use Rattle.std.specs.List.{position_from}
use Rattle.inform_meaning.specs.Tables.{same_name}
use Rattle.inform_worlds.proofs.scopes.Scope.search_short.Given as goal

-- what the whole search finds is what it finds from here
abbrev pub invariant-loop-rest : goal.invariant-loop-rest
invariant-loop-rest l =
    (position_from (same_name l.name) 0 l.self.names.now ≡ position_from (same_name l.name) l.place l.rest)
    × (l.place + length l.rest ≡ length l.self.names.now)

abbrev pub decreases-loop-rest : goal.decreases-loop-rest
decreases-loop-rest l = length l.rest
