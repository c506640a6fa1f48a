-- Items by their numbers.
use Rattle.std.specs.Prelude.{ℕ, List, map}
use Rattle.scott_types.specs.declared.parts.Item.{Item}
use Rattle.scott_types.specs.Database.{item_in}
use Rattle.scott_types.specs.ItemText.{shown}

-- what is shown of it
abbrev pub shown_at : List Item → ℕ → List ℕ
shown_at items number = shown (item_in items number).text

-- what is shown of the items of these numbers
abbrev pub texts_of : List Item → List ℕ → List (List ℕ)
texts_of items numbers = map (λ number. shown_at items number) numbers
