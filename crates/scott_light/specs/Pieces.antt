-- The pieces of a page.
use Rattle.std.specs.Prelude.{ℕ, ◌<◌, List, length}
use Rattle.adv_io.specs.Text.{joined}
use Rattle.std.specs.List.{All}
use Rattle.scott_types.specs.declared.phrases.Phrase.TheVariants.{BetweenItems}
use Rattle.scott_types.specs.Phrase.{text_of}
use Rattle.scott_light.specs.declared.pieces.PagePiece.{PagePiece}
use Rattle.scott_light.specs.declared.pieces.PagePiece.TheVariants.{Text, Items}
use Rattle.scott_light.specs.ItemTexts.{texts_of}

-- the text that a piece makes
abbrev pub piece_text : PagePiece → List ℕ
piece_text (Text text) = text.now
piece_text (Items items numbers) = joined (text_of BetweenItems) (texts_of items.now numbers.now)

-- each number is that of an item
abbrev pub PieceFits : PagePiece → Type 0
PieceFits (Text text) = Unit {0}
PieceFits (Items items numbers) = All (λ number. number < length items.now) numbers.now
