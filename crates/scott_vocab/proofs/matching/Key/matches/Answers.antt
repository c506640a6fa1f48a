use Rattle.std.proofs.Common.{◌∙◌}
use Rattle.scott_vocab.proofs.Typed.{typed_by_key}
use Rattle.scott_vocab.proofs.matching.Key.matches.Goals as goal

pub returns-then-not-is_empty : goal.returns-then-not-is_empty
returns-then-not-is_empty c = λ typed key.
    rw (← c.self.view_is)
    (typed_by_key c.self.inside.size c.args.word.now typed c.prefix.result.now c.as_slice.result.now c.is_spelled.result
    c.if-not-is_empty.ensures c.prefix.ensures.value (c.as_slice.ensures.value ∙ (rw (← c.self.view_is) at key)) c.is_spelled.ensures)
