use Rattle.std.proofs.Common.{Option, sym, ap, subst}
use Rattle.scott_format.specs.File.{database_in}
use Rattle.scott_tool.specs.Refusal.{Refusal}
use Rattle.scott_tool.specs.Check.{database_or_unfit, database_of_file}
use Rattle.scott_tool.specs.Obeying.{Declines}
use Rattle.scott_tool.proofs.Databases.{database-declined}
use Rattle.scott_tool.proofs.contents.database_read.Goals as goal

pub returns-in-Ok : goal.returns-in-Ok
returns-in-Ok c = λ bytes reads.
    ap (database_or_unfit c.args.name.now) (rw c.in-Ok.is at reads)

pub returns-in-Err : goal.returns-in-Err
returns-in-Err c = λ bytes reads.
    subst (λ (r : Option Refusal). Declines (database_of_file c.args.name.now bytes) r)
    (sym c.refusal_for.ensures)
    (database-declined c.args.name.now (database_in bytes) c.in-Err.fault
    (rw c.in-Err.is at reads))
