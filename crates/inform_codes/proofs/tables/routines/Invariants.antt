use Rattle.std.proofs.Common.{◌≡◌, ◌++◌, drop, map}
use Rattle.inform_tree.specs.Programs.{directive_of}
use Rattle.inform_codes.specs.Routines.{rows_directives}
use Rattle.inform_codes.proofs.tables.routines.Given as goal

-- the routines so far, and those to come, are all of them
abbrev pub invariant-loop-row : goal.invariant-loop-row
invariant-loop-row l =
    rows_directives (map (λ n. n.now) l.names) l.given (map (λ row. (row.0, row.1.now, row.2.now)) l.rows)
    ≡ map directive_of l.directives.items ++ rows_directives (map (λ n. n.now) l.names) l.given (map (λ row. (row.0, row.1.now, row.2.now)) (drop l.row-index l.rows))
