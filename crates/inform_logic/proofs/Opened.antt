-- What frames do with the outcomes of their parts, opened at once.
use Rattle.inform_meaning.specs.Frames.{on_normal, on_value, on_truth, on_body, on_return}

unfoldable pub opened : Unit {0}
unfolding on_normal on_value on_truth on_body on_return
opened = tt
