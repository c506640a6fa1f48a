use Rattle.inform_logic.proofs.Moved.{item_is_moved as law}
use Rattle.inform_logic.proofs.examples.item_is_moved.Goals as goal

pub returns : goal.returns
returns c = law
