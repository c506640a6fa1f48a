use Rattle.inform_tree.specs.Programs.{directive_of}
use Rattle.trans_commands.specs.Directives.{command_directives}
use Rattle.trans_groups.specs.Trying.{trying_directives}
use Rattle.trans_turn.specs.Routines.{round_directives}
use Rattle.trans_turn.proofs.TurnSpecs.{turn_then}
use Rattle.trans_turn.proofs.emitting.turn.Goals as goal

-- src/emitting.rt
pub returns : goal.returns
returns c = turn_then directive_of (trying_directives c.args.db.now)
    (command_directives c.args.style c.args.db.now) (round_directives c.args.begin) _ _ _ _ _
    c.in_ok-trying.ensures c.in_ok-commanding.ensures c.in_ok-going.ensures
    c.in_ok-playing.ensures c.in_ok-all.ensures
