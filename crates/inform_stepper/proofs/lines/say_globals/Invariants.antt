use Rattle.std.proofs.Common.{take}
use Rattle.std.specs.List.{flat_map}
use Rattle.adv_io.specs.Console.{Speaks}
use Rattle.adv_io.specs.History.{says}
use Rattle.adv_io.proofs.Sayings.{success}
use Rattle.inform_tree.specs.Programs.{directive_of}
use Rattle.inform_run.specs.Runners.{world_in}
use Rattle.inform_stepper.specs.Repeats.{directive_text}
use Rattle.inform_stepper.proofs.lines.say_globals.Given as goal

-- the directives so far were said
abbrev pub invariant-loop-directive : goal.invariant-loop-directive
invariant-loop-directive g l =
    let seen = g.C.Console.seen in
    Speaks (seen l.initial.console) (seen l.console) success
    (says (flat_map (λ d. directive_text (world_in l.runner) (directive_of d))
    (take l.directive-index l.directives)))
