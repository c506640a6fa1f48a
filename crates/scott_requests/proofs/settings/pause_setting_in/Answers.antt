use Rattle.std.proofs.Common.{◌∙◌}
use Rattle.std.specs.Prelude.{codes}
use Rattle.scott_requests.specs.Parts.{after_prefix}
use Rattle.scott_requests.proofs.Prefixes.{prefix_missing, prefix_there, by_routine, by_count, by_no_pause}
use Rattle.scott_requests.proofs.settings.pause_setting_in.Goals as goal

pub returns-in-Some : goal.returns-in-Some
returns-in-Some c =
    let word = c.args.word.now in
    c.entering.ensures
    ∙ by_routine (after_prefix (codes "at=") word) (after_prefix
    (codes "every=") word) c.in-Some.name.now
    (prefix_there (codes "at=") word c.in-Some.name.now c.in-Some.ensures.cases)

pub returns-in-Some-strip_prefix : goal.returns-in-Some-strip_prefix
returns-in-Some-strip_prefix c =
    let word = c.args.word.now in
    let digits = c.in-Some-strip_prefix.digits.now in
    c.each.ensures
    ∙ by_count (after_prefix (codes "at=") word) (after_prefix (codes "every=") word) digits
    (prefix_missing (codes "at=") word c.in_default.ensures.cases)
    (prefix_there (codes "every=") word digits c.in-Some-strip_prefix.ensures.cases)

pub returns : goal.returns
returns c =
    let word = c.args.word.now in
    by_no_pause (after_prefix (codes "at=") word) (after_prefix (codes "every=") word)
    (prefix_missing (codes "at=") word c.in_default.ensures.cases)
    (prefix_missing (codes "every=") word c.in_default-strip_prefix.ensures.cases)
