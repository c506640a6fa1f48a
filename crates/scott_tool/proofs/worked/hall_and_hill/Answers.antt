use Rattle.scott_tool.proofs.Hill.{hill_seen}
use Rattle.scott_tool.proofs.worked.hall_and_hill.Goals as goal

pub returns : goal.returns
returns c = λ zero.
    hill_seen c.one_database.ensures c.written_text_is_text.ensures c.hill_keeps_limits.ensures
    c.args.words.now c.args.shelf.now c.scott.new.shelf c.args.console.now c.scott.new.console
    c.scott.result
    c.requires.words c.requires.game c.requires.lines c.scott.ensures.played zero
