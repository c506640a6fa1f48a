use Rattle.std.proofs.Common.{Ok, ap}
use Rattle.scott_format.specs.Canon.{canon}
use Rattle.scott_tool.specs.Steps.{◌>>=◌}
use Rattle.scott_tool.specs.Work.{exactly, storing}
use Rattle.scott_tool.proofs.commands.compile.database_text.Goals as goal

pub returns-in-Ok : goal.returns-in-Ok
returns-in-Ok c = (
  exactly (canon c.in_ok-db.db),
  ap (λ r. r >>= λ db. Ok (storing c.args.game.now (exactly (canon db))))
      (rw c.deref.ensures.value at c.in_ok-db.ensures),
  c.in-Ok.ensures,
)
