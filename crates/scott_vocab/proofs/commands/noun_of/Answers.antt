use Rattle.scott_types.specs.declared.commands.Column.TheVariants.{Nouns}
use Rattle.scott_vocab.proofs.Searching.{named_is_there}
use Rattle.scott_vocab.proofs.commands.noun_of.Goals as goal

pub returns-clause-there : goal.returns-clause-there
returns-clause-there g c = named_is_there (g.V.Vocabulary.db c.args.vocabulary.now) Nouns c.args.word.now c.named.result c.named.ensures
