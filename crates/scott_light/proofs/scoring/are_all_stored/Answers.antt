use Rattle.std.proofs.Common.{rules, FitsSigned, to_z-of_z}
use mir.Syntax.{w32}
use Rattle.scott_light.proofs.scoring.are_all_stored.Goals as goal

pub returns : goal.returns
returns c =
    let f : FitsSigned w32 c.args.db.now.header.treasures = search rules in
    rw (c.treasures_of.ensures, to_z-of_z f, c.stored_in.ensures.count) at c.is_full.ensures
