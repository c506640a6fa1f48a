use Rattle.std.proofs.Common.{◌∙◌}
use Rattle.std.specs.Prelude.{codes}
use Rattle.scott_requests.specs.Parts.{after_prefix}
use Rattle.scott_requests.proofs.Prefixes.{prefix_missing, prefix_there, by_steps, by_words, by_neither}
use Rattle.scott_requests.proofs.settings.run_setting_in.Goals as goal

pub returns-in-Some : goal.returns-in-Some
returns-in-Some c =
    let word = c.args.word.now in
    c.steps.ensures
    ∙ by_steps (after_prefix (codes "steps=") word) (after_prefix
    (codes "words=") word) c.in-Some.digits.now
    (prefix_there (codes "steps=") word c.in-Some.digits.now c.in-Some.ensures.cases)

pub returns-in-Some-strip_prefix : goal.returns-in-Some-strip_prefix
returns-in-Some-strip_prefix c =
    let word = c.args.word.now in
    let text = c.in-Some-strip_prefix.text.now in
    c.width.ensures
    ∙ by_words (after_prefix (codes "steps=") word) (after_prefix (codes "words=") word) text
    (prefix_missing (codes "steps=") word c.in_default.ensures.cases)
    (prefix_there (codes "words=") word text c.in-Some-strip_prefix.ensures.cases)

pub returns : goal.returns
returns c =
    let word = c.args.word.now in
    by_neither (after_prefix (codes "steps=") word) (after_prefix (codes "words=") word)
    (prefix_missing (codes "steps=") word c.in_default.ensures.cases)
    (prefix_missing (codes "words=") word c.in_default-strip_prefix.ensures.cases)
