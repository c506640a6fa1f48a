use Rattle.inform_tree.specs.Programs.{directive_of}
use Rattle.trans_specs.specs.Directives.{data_directives}
use Rattle.trans_data.specs.Texts.{text_directives}
use Rattle.trans_words.specs.Directives.{word_directives}
use Rattle.trans_actions.specs.Directives.{action_directives}
use Rattle.trans_turn.specs.Routines.{turn_directives}
use Rattle.trans_programs.proofs.Joined.{tables_then}
use Rattle.trans_programs.proofs.emitting.directives.Goals as goal

-- src/games.rt
pub returns : goal.returns
returns c = tables_then directive_of (data_directives c.args.db.now c.args.state.now)
    (text_directives c.args.style c.args.db.now) (word_directives c.args.db.now)
    (action_directives c.args.style c.args.db.now)
    (turn_directives c.args.style c.args.db.now c.args.begin) _ _ _ _ _ _ _
    c.in_ok-data.ensures c.in_ok-reading.ensures c.in_ok-acting.ensures c.in_ok-turning.ensures
    c.in_ok-playing.ensures c.in_ok-speaking.ensures c.in_ok-all.ensures
