use Rattle.std.proofs.Common.{◌≡◌, ◌≤◌, drop}
use Rattle.inform_tree.specs.Depths.{cases_depth}
use Rattle.inform_tree.specs.Statements.{cases_of}
use Rattle.inform_meaning.specs.Meaning.{Calls}
use Rattle.inform_meaning.specs.Statements.{exec_cases, exec_default}
use Rattle.inform_worlds.specs.Worlds.{program_of}
use Rattle.inform_frames.specs.Frames.{default_of}
use Rattle.inform_interpreter.proofs.choices.picked.Given as goal

-- all cases mean what the cases from here on mean, and those are no deeper
abbrev pub invariant-loop-case : goal.invariant-loop-case
invariant-loop-case l =
    let p = program_of l.names.accepted.now in
    let left = cases_of (drop l.case-index l.cases.items) in
    ((call : Calls) → exec_cases p call l.a (cases_of l.cases.items) (exec_default p call (default_of l.fn.rest))
    ≡ exec_cases p call l.a left (exec_default p call (default_of l.fn.rest)))
    × (cases_depth left ≤ cases_depth (cases_of l.cases.items))
