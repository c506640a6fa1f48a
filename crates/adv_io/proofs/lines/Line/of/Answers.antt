use Rattle.std.proofs.Common.{◌≡◌, ◌∙◌, map, take, ap}
use Rattle.adv_io.specs.TypedLine.{line_byte}
use Rattle.adv_io.proofs.TypedLines.{take-walk_result, IsTyped-walk_result}
use Rattle.adv_io.proofs.lines.Line.of.Goals as goal

-- at the loop's end all of the prefix was kept
whole : (c : goal.After-loop-byte) → c.loop-byte.kept.items ≡ map line_byte (take 120 c.args.raw.now)
whole c =
    c.loop-byte.invariant.kept
    ∙ ap (map line_byte) (take-walk_result c.args.raw.now c.min.result c.loop-byte.byte-index c.min.ensures c.loop-byte-test.false)

pub invariant_of-result : goal.invariant_of-result
invariant_of-result c = IsTyped-walk_result c.loop-byte.kept.items c.args.raw.now (whole c)

pub returns : goal.returns
returns c = whole c
