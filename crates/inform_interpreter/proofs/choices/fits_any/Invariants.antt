use Rattle.std.proofs.Common.{◌≡◌, drop}
use Rattle.inform_meaning.specs.Statements.{fits_any}
use Rattle.inform_worlds.specs.Worlds.{program_of}
use Rattle.inform_interpreter.proofs.choices.fits_any.Given as goal

-- whether the value fits one of all is whether it fits one from here on
abbrev pub invariant-loop-choice : goal.invariant-loop-choice
invariant-loop-choice l = fits_any (program_of l.names.accepted.now) l.a l.choices.items
    ≡ fits_any (program_of l.names.accepted.now) l.a (drop l.choice-index l.choices.items)
