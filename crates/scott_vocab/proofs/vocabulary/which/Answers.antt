use Rattle.std.proofs.Common.{◌∙◌, ap}
use Rattle.scott_types.specs.Database.{Database}
use Rattle.scott_vocab.proofs.Searching.{found_here}
use Rattle.scott_vocab.proofs.vocabulary.which.Goals as goal

pub returns-then-names_base-clause-value : goal.returns-then-names_base-clause-value
returns-then-names_base-clause-value c =
    let size = c.of-key.ensures.size ∙ ap (λ (db : Database). db.header.length) c.parts-parts.ensures.value in
    found_here _ c.entry_at-entry.result.base _ _ _ (rw size at (c.if-names_base.ensures c.args.word.now c.of-key.ensures.key))
    (c.entry_at-entry.ensures.names c.args.word.now) c.loop-k.invariant.found
