use Rattle.std.proofs.Common.{Ok, ap}
use Rattle.adv_decompiler.specs.Plain.{plain}
use Rattle.scott_tool.specs.Steps.{◌>>=◌}
use Rattle.scott_tool.specs.Work.{exactly, storing}
use Rattle.scott_tool.proofs.commands.decompile.source_text.Goals as goal

pub returns-in-Ok : goal.returns-in-Ok
returns-in-Ok c = λ bytes has. (
  exactly (plain c.in_ok-db.db.now),
  ap (λ r. r >>= λ db. Ok (storing c.args.source.now (exactly (plain db))))
      (c.in_ok-db.ensures bytes has),
  c.in-Ok.ensures.plain,
)
