use Rattle.scott_types.proofs.phrases.Phrase.text_in.Goals as goal

pub returns-then-style : goal.returns-then-style
returns-then-style c = rw c.if-style.true c.second_person.ensures

pub returns-else-style : goal.returns-else-style
returns-else-style c = rw c.if-style.false c.text.ensures
