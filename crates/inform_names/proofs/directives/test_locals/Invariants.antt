use Rattle.std.proofs.Common.{◌≡◌, drop}
use Rattle.inform_names.specs.Acceptance.{locals_fault}
use Rattle.inform_names.proofs.directives.test_locals.Given as goal

abbrev pub invariant-loop-number : goal.invariant-loop-number
invariant-loop-number l = locals_fault l.routine l.locals 0 l.locals
    ≡ locals_fault l.routine l.locals l.number (drop l.number l.locals)
