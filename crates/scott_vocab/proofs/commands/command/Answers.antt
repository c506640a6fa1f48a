use Rattle.std.proofs.Common.{◌≡◌, rules}
use Rattle.scott_types.specs.declared.commands.Heard.{Heard}
use Rattle.scott_rules.specs.Commands.{first_word, by_direction}
use Rattle.scott_vocab.proofs.Hearing.{unknown_heard}
use Rattle.scott_vocab.proofs.commands.command.Goals as goal

pub returns-in-None-clause-value : goal.returns-in-None-clause-value
returns-in-None-clause-value g c =
    let word : c.if-is_none.word.now ≡ first_word c.args.line.now (c.in-Some.start, c.in-Some.length) c.split-words.result.second = search rules in
    let undirected : (other : Heard) → by_direction c.noun_of.result other ≡ other = λ other. search rules in
    unknown_heard (g.V.Vocabulary.db c.args.vocabulary.now) c.args.line.now c.if-is_none.word.now c.split-words.result (c.in-Some.start, c.in-Some.length)
    c.noun_of.result c.split-words.ensures.value c.in-Some.is word c.noun_of.ensures.value undirected c.in-None.ensures

pub returns-in-None-clause-there : goal.returns-in-None-clause-there
returns-in-None-clause-there g c = rw c.in-Some.is at c.split-words.ensures.first_within
