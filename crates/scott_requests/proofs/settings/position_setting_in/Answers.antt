use Rattle.std.proofs.Common.{◌∙◌}
use Rattle.std.specs.Prelude.{codes}
use Rattle.scott_requests.specs.Parts.{after_prefix}
use Rattle.scott_requests.proofs.Prefixes.{prefix_missing, prefix_there, by_from, by_save, by_neither_file}
use Rattle.scott_requests.proofs.settings.position_setting_in.Goals as goal

pub returns-in-Some : goal.returns-in-Some
returns-in-Some c =
    let word = c.args.word.now in
    c.opened.ensures
    ∙ by_from (after_prefix (codes "from=") word) (after_prefix
    (codes "save=") word) c.in-Some.name.now
    (prefix_there (codes "from=") word c.in-Some.name.now c.in-Some.ensures.cases)

pub returns-in-Some-strip_prefix : goal.returns-in-Some-strip_prefix
returns-in-Some-strip_prefix c =
    let word = c.args.word.now in
    let text = c.in-Some-strip_prefix.name.now in
    c.saved.ensures
    ∙ by_save (after_prefix (codes "from=") word) (after_prefix (codes "save=") word) text
    (prefix_missing (codes "from=") word c.in_default.ensures.cases)
    (prefix_there (codes "save=") word text c.in-Some-strip_prefix.ensures.cases)

pub returns : goal.returns
returns c =
    let word = c.args.word.now in
    by_neither_file (after_prefix (codes "from=") word) (after_prefix (codes "save=") word)
    (prefix_missing (codes "from=") word c.in_default.ensures.cases)
    (prefix_missing (codes "save=") word c.in_default-strip_prefix.ensures.cases)
