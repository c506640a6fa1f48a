-- What holds of a move where a part is there at once, and of the move where it isn't.
use Rattle.std.proofs.Common.{Option, Some, None}
use Rattle.inform_moves.specs.Moves.{Move, at_once}

pub at_once-all : {X : Type 0} (P : Move → Type 0) (o : Option X) (follow : X → Move) (other : Move)
    → ((x : X) → P (follow x)) → P other → P (at_once o follow other)
at_once-all P None follow other h k = k
at_once-all P (Some x) follow other h k = h x
