-- Worked numbers of a small game.
use Rattle.std.specs.Prelude.{◌≡◌, [], ◌∷◌}
use Rattle.scott_types.specs.declared.commands.Column.TheVariants.{Verbs, Nouns}
use Rattle.scott_rules.specs.Games.{hill}
use Rattle.trans_words.specs.Directives.{numbers}

-- Of the hall and the hill three bytes of a word count, and there are seven entries. No letter is a
-- verb; six letters are the directions, and `inventory` is no word.
pub record HillNumbers : Type 0 where
  pub verbs : numbers hill Verbs ≡ 3 ∷ 7 ∷ 0 ∷ 0 ∷ 0 ∷ 0 ∷ 0 ∷ 0 ∷ 0 ∷ []
  pub nouns : numbers hill Nouns ≡ 3 ∷ 7 ∷ 1 ∷ 2 ∷ 3 ∷ 4 ∷ 5 ∷ 6 ∷ 0 ∷ []
