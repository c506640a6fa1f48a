use Rattle.scott_light.proofs.lamp.count_light.Goals as goal

pub returns-clause-fits : goal.returns-clause-fits
returns-clause-fits g c =
    rw c.count_turn.ensures.state (c.light_fits.ensures c.args.db.now c.args.style c.args.state.now c.parts-limits.ensures.kept c.requires)
