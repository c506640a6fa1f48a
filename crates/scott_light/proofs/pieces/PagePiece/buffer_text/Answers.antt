use Rattle.scott_light.proofs.pieces.PagePiece.buffer_text.Goals as goal

pub returns-in-Items : goal.returns-in-Items
returns-in-Items g c = rw c.in-Items.is c.buffer_items.ensures
