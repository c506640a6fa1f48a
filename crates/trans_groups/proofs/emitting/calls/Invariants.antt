use Rattle.std.proofs.Common.{◌≡◌, [], ◌++◌, drop, map}
use Rattle.inform_tree.specs.Statements.{statement_of}
use Rattle.trans_specs.specs.Names.{line_name}
use Rattle.trans_specs.specs.Lines.{call_statement}
use Rattle.trans_groups.proofs.emitting.calls.Given as goal

-- the calls so far, and those of the lines to come, are all of them
abbrev pub invariant-loop-line : goal.invariant-loop-line
invariant-loop-line l =
    map (λ k. call_statement (line_name k) []) l.lines
    ≡ map statement_of l.calls.items
    ++ map (λ k. call_statement (line_name k) []) (drop l.line-index l.lines)
