use Rattle.scott_tool.specs.Obeying as o
use Rattle.scott_tool.proofs.commands.calls.say_end.Goals as goal

pub returns-in-Quit : goal.returns-in-Quit
returns-in-Quit g c = rw c.in-Quit.is c.say_report.ensures

pub returns-in-NeedsLine : goal.returns-in-NeedsLine
returns-in-NeedsLine g c = rw c.in-NeedsLine.is c.say_report-in-NeedsLine.ensures

pub returns-in-NeedsDraw : goal.returns-in-NeedsDraw
returns-in-NeedsDraw g c = rw c.in-NeedsDraw.is c.say_report-in-NeedsDraw.ensures

pub returns-in-Trap : goal.returns-in-Trap
returns-in-Trap g c =
    rw c.in-Trap.is
    (o.reported c.say_stop.result (rw c.in-Trap.is at c.say_stop.ensures) c.concluded.ensures)

pub returns-in-Spent : goal.returns-in-Spent
returns-in-Spent g c =
    rw c.in-Spent.is
    (o.reported c.say_stop-in-Spent.result (rw c.in-Spent.is at c.say_stop-in-Spent.ensures)
    c.concluded-in-Spent.ensures)
