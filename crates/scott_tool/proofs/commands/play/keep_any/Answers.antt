use Rattle.scott_tool.proofs.commands.play.keep_any.Goals as goal

pub returns-in-Some : goal.returns-in-Some
returns-in-Some g c =
    rw c.in-Some.is (rw c.state-state.ensures.value at rw c.position-position.ensures.value at
    rw c.taken-taken.ensures.value at c.keep_position.ensures)
