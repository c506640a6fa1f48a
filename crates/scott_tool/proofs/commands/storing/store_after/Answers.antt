use Rattle.std.proofs.Common.{refl}
use Rattle.scott_tool.specs.Obeying as o
use Rattle.scott_tool.specs.Views.{refusal_of}
use Rattle.scott_tool.proofs.commands.storing.store_after.Goals as goal

pub returns-in-Ok : goal.returns-in-Ok
returns-in-Ok g c =
    o.stored (record { name = c.args.name.now; bytes = c.args.bytes.now }) refl refl
    c.in-Ok.ensures.stored c.in-Ok.ensures.steady refl

pub returns-in-Err : goal.returns-in-Err
returns-in-Err g c =
    o.unstored (record { name = c.args.name.now; bytes = c.args.bytes.now })
    (refusal_of c.in-Err.refusal) refl c.in-Err.ensures.failed c.store_file.ensures.later
    c.end.ensures
