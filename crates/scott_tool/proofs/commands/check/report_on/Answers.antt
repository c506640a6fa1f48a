use Rattle.std.proofs.Common.{Ok, ap}
use Rattle.adv_check.specs.Report.{report_text}
use Rattle.scott_tool.specs.Steps.{◌>>=◌}
use Rattle.scott_tool.specs.Work.{exactly, saying}
use Rattle.scott_tool.proofs.commands.check.report_on.Goals as goal

pub returns-in-Ok : goal.returns-in-Ok
returns-in-Ok c = λ bytes has. (
  exactly (report_text c.in_ok-db.db.now),
  ap (λ r. r >>= λ db. Ok (saying (exactly (report_text db))))
      (c.in_ok-db.ensures bytes has),
  c.in-Ok.ensures,
)
