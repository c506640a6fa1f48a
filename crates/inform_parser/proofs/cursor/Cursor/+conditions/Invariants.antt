use Rattle.std.proofs.Common.{◌≡◌, ◌+◌, ◌*◌, ◌≤◌, [], ◌∷◌, map, length}
use Rattle.inform_tree.specs.Conditions.{condition_of}
use Rattle.inform_parser.specs.Reading.{read}
use Rattle.inform_parser.specs.Guards.{join_of}
use Rattle.inform_parser.specs.Plans.{members_from}
use Rattle.inform_parser.proofs.cursor.Cursor.«+conditions».Given as goal

abbrev pub decreases-test : goal.decreases-test
decreases-test l = 8 * length l.self.now.rest + 2

abbrev pub decreases-guard_in_brackets : goal.decreases-guard_in_brackets
decreases-guard_in_brackets l = 8 * length l.self.now.rest

abbrev pub decreases-member : goal.decreases-member
decreases-member l = 8 * length l.self.now.rest + 1

abbrev pub decreases-members : goal.decreases-members
decreases-members l = 8 * length l.self.now.rest + 2

abbrev pub decreases-guard : goal.decreases-guard
decreases-guard l = 8 * length l.self.now.rest + 3

-- what is read with what was found so far is what is read
abbrev pub invariant-members-loop-alloc : goal.invariant-members-loop-alloc
invariant-members-loop-alloc l =
    (read (members_from (join_of l.fn.join) (map condition_of l.members.items)) l.self ≡ read (members_from (join_of l.fn.join) (condition_of l.fn.first ∷ condition_of l.fn.second ∷ [])) l.fn.self)
    × (length l.self.rest ≤ length l.fn.self.rest)

abbrev pub decreases-members-loop-alloc : goal.decreases-members-loop-alloc
decreases-members-loop-alloc l = length l.self.rest
