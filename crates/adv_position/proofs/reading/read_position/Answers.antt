use Rattle.adv_position.proofs.Whole.{as_text, as_bad, as_saved, as_standing}
use Rattle.adv_position.proofs.reading.read_position.Goals as goal

pub returns-clause-text : goal.returns-clause-text
returns-clause-text c = as_text c.args.db.now c.args.bytes.now c.parts-limits.ensures.kept
    c.text_is_read.ensures c.read_lines.result c.read_lines.ensures

pub returns-clause-bad : goal.returns-clause-bad
returns-clause-bad c = as_bad c.args.db.now c.args.bytes.now c.parts-limits.ensures.kept
    c.bad_line_is_found.ensures c.read_lines.result c.read_lines.ensures

pub returns-clause-saved : goal.returns-clause-saved
returns-clause-saved c =
    as_saved c.args.db.now c.args.bytes.now c.parts-limits.ensures.kept c.text_is_read.ensures
    c.read_lines.result c.read_lines.ensures

pub returns-clause-stands : goal.returns-clause-stands
returns-clause-stands c =
    as_standing c.args.db.now c.args.bytes.now c.parts-limits.ensures.kept c.text_is_read.ensures
    c.read_lines.result c.read_lines.ensures
