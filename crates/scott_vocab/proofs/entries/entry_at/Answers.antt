use Rattle.std.proofs.Common.{◌∙◌, ap, get_or}
use Rattle.scott_vocab.proofs.Searching.{which_from-at}
use Rattle.scott_vocab.proofs.entries.entry_at.Goals as goal

pub returns-clause-names : goal.returns-clause-names
returns-clause-names c = λ word.
    let w = c.index-words-k.result in
    rw (c.spelling.ensures)
    (which_from-at c.args.db.now c.args.column word c.args.before c.args.k w c.entry_text-text.result.now c.base_at.result c.requires.there
    (c.index-words-k.is ∙ ap (λ words. get_or words c.args.k w) c.words.ensures.value) c.entry_text-text.ensures c.base_at.ensures.value)
