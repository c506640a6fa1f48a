use Rattle.scott_turn.proofs.Showing.{shown_said}
use Rattle.scott_turn.proofs.saying.say_text.Goals as goal

pub returns : goal.returns
returns g c = rw (shown_said c.args.text.now) c.say_unless_empty.ensures
