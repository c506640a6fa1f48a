-- What a runner enters that stands at the opening of a program: for `entered_from_opening`.
use Rattle.std.proofs.Common.{◌∙◌, [], sym, ap}
use Rattle.inform_names.specs.Acceptance.{main}
use Rattle.inform_names.specs.Views.{directives_of}
use Rattle.inform_meaning.specs.Programs.{routine_named, body_of}
use Rattle.inform_meaning.specs.Runs.{main_begun}
use Rattle.inform_worlds.specs.Worlds.{program_of}
use Rattle.inform_steps.specs.Pieces.{entered_in}
use Rattle.inform_steps.specs.Laws.{EnteredFromTheBeginning}
use Rattle.inform_run.specs.Runners.{begun_in, left_to}
use Rattle.adv_coverage.specs.Calls.{EnteredFromOpening}

pub entered_from_opening : EnteredFromTheBeginning → EnteredFromOpening
entered_from_opening beginning a r steps lines draws at =
    let first = main_begun (body_of (routine_named a.width (directives_of a) main)) in
    ap (λ p. entered_in p (begun_in r) (left_to r steps lines draws) steps) at.program
    ∙ ap (λ fs. entered_in (program_of a) fs (left_to r steps lines draws) steps) at.begun
    ∙ ap (λ w. entered_in (program_of a) first
    (record { steps = steps; lines = lines; draws = draws; past = []; world = w }) steps) at.world
    ∙ sym (beginning a.width (directives_of a) steps steps lines draws)
