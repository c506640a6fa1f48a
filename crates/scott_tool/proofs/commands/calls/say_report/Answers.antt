use Rattle.scott_tool.specs.Obeying as o
use Rattle.scott_tool.proofs.commands.calls.say_report.Goals as goal

pub returns-in-Ok : goal.returns-in-Ok
returns-in-Ok g c =
    o.reported c.say.result (rw c.in-Ok.ensures at rw c.deref.ensures.value at c.say.ensures)
    c.concluded.ensures
