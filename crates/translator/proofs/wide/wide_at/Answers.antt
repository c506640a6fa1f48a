use Rattle.std.proofs.Common.{◌∙◌}
use Rattle.translator.proofs.FirstWide.{all_are}
use Rattle.translator.proofs.wide.wide_at.Goals as goal

-- src/wide.rt
pub returns : goal.returns
returns c = c.wide_in_game.ensures ∙ all_are c.args.width c.args.db.now
