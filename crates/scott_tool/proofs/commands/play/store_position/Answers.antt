use Rattle.std.proofs.Common.{refl}
use Rattle.adv_position.specs.Text.{position_text}
use Rattle.adv_position.specs.declared.saved.Saved.{Saved}
use Rattle.scott_tool.specs.Obeying as o
use Rattle.scott_tool.proofs.commands.play.store_position.Goals as goal

pub returns-in-Ok : goal.returns-in-Ok
returns-in-Ok g c = rw c.in-Ok.ensures at rw c.deref.ensures.value at c.store_after.ensures

pub returns-in-Err : goal.returns-in-Err
returns-in-Err g c =
    let from : Saved = record {
      state = c.args.state.now;
      position = c.args.position;
      taken = c.args.taken;
    } in
    o.starved (record { name = c.args.name.now; bytes = position_text from }) refl refl refl refl
