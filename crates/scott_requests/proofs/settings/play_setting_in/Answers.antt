use Rattle.std.proofs.Common.{◌∙◌}
use Rattle.std.specs.Prelude.{codes}
use Rattle.scott_requests.specs.Parts.{after_prefix}
use Rattle.scott_requests.proofs.Prefixes.{prefix_missing, prefix_there, by_draws, by_seed, by_style, by_no_prefix}
use Rattle.scott_requests.proofs.settings.play_setting_in.Goals as goal

pub returns-in-Some : goal.returns-in-Some
returns-in-Some c =
    let word = c.args.word.now in
    c.listed.ensures
    ∙ by_draws (after_prefix (codes "draws=") word) (after_prefix (codes "seed=") word)
    (after_prefix (codes "style=") word) c.in-Some.name.now
    (prefix_there (codes "draws=") word c.in-Some.name.now c.in-Some.ensures.cases)

pub returns-in-Some-strip_prefix : goal.returns-in-Some-strip_prefix
returns-in-Some-strip_prefix c =
    let word = c.args.word.now in
    let digits = c.in-Some-strip_prefix.digits.now in
    c.seeded.ensures
    ∙ by_seed (after_prefix (codes "draws=") word) (after_prefix (codes "seed=") word)
    (after_prefix (codes "style=") word) digits
    (prefix_missing (codes "draws=") word c.in_default.ensures.cases)
    (prefix_there (codes "seed=") word digits c.in-Some-strip_prefix.ensures.cases)

pub returns-in-Some-strip_prefix-2 : goal.returns-in-Some-strip_prefix-2
returns-in-Some-strip_prefix-2 c =
    let word = c.args.word.now in
    let letters = c.in-Some-strip_prefix-2.letters.now in
    c.styled.ensures
    ∙ by_style (after_prefix (codes "draws=") word) (after_prefix (codes "seed=") word)
    (after_prefix (codes "style=") word) letters
    (prefix_missing (codes "draws=") word c.in_default.ensures.cases)
    (prefix_missing (codes "seed=") word c.in_default-strip_prefix.ensures.cases)
    (prefix_there (codes "style=") word letters c.in-Some-strip_prefix-2.ensures.cases)

pub returns : goal.returns
returns c =
    let word = c.args.word.now in
    by_no_prefix (after_prefix (codes "draws=") word) (after_prefix (codes "seed=") word)
    (after_prefix (codes "style=") word)
    (prefix_missing (codes "draws=") word c.in_default.ensures.cases)
    (prefix_missing (codes "seed=") word c.in_default-strip_prefix.ensures.cases)
    (prefix_missing (codes "style=") word c.in_default-strip_prefix-2.ensures.cases)
