use Rattle.std.proofs.Common.{sym}
use Rattle.scott_types.specs.ItemText.{is_slash}
use Rattle.scott_types.proofs.FirstPlaces.{place-position, length-position}
use Rattle.scott_types.proofs.item_texts.slash_place.Goals as goal

pub returns-in-Some : goal.returns-in-Some
returns-in-Some c = place-position is_slash c.args.bytes.now c.in-Some.at (sym c.in-Some.ensures)

pub returns-in-None : goal.returns-in-None
returns-in-None c = length-position is_slash c.args.bytes.now (sym c.in-None.ensures)
