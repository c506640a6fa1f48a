use Rattle.std.proofs.Common.{rules, ◌∙◌, ap, unwrap_or}
use Rattle.scott_index.proofs.WordIndexes.{put_found, key_of, filled}
use Rattle.scott_index.proofs.indexes.WordIndex.add.Goals as goal

pub returns-clause-found : goal.returns-clause-found
returns-clause-found c = λ typed.
    let v = c.or_insert.result.now in
    let e = (c.in_ok-self-inside.ensures.update.0 v).0 (key_of c.self.inside.size typed) in
    rw (← c.self.view_is) (put_found c.self.inside.size c.args.word.now typed
    c.self.inside.numbers.entries _ c.letters.result c.args.number v c.letters.ensures
    (filled c.args.word.now c.if-is_empty.ensures)
    (c.or_insert.ensures.value
    ∙ ap (λ o. unwrap_or o c.args.number) c.in_ok-self-inside.ensures.value) (search rules))
