use Rattle.scott_light.proofs.looking.look.Goals as goal

pub returns : goal.returns
returns g c = c.look_after.ensures
