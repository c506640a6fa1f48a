use Rattle.std.proofs.Common.{◌∙◌, List, ℕ, nat_eq, ap}
use Rattle.std.specs.Cmp.Lexicographic.{pointwise}
use Rattle.std.specs.Map.{lookup}
use Rattle.scott_index.proofs.indexes.WordIndex.find.Goals as goal

pub returns : goal.returns
returns c =
    rw (← c.self.view_is)
    (c.copied.ensures ∙ c.get.ensures.value
    ∙ ap (λ (bytes : List ℕ). lookup (λ key. pointwise nat_eq bytes key.items) c.self.inside.numbers.entries) c.letters.ensures)
