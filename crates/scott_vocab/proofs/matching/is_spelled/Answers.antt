use Rattle.std.proofs.Common.{◌<◌, length, arith}
use Rattle.scott_vocab.proofs.Alike.{differ_at, alike_further, alike_to_the_end}
use Rattle.scott_vocab.proofs.matching.is_spelled.Goals as goal

pub returns-then-to_ascii_lowercase-lower : goal.returns-then-to_ascii_lowercase-lower
returns-then-to_ascii_lowercase-lower c =
    differ_at c.args.word.now c.args.lower.now c.loop-i.i c.to_ascii_lowercase.result c.loop-i-test.true c.to_ascii_lowercase.ensures.value c.if-to_ascii_lowercase-lower.true

pub loop-i-preserved : goal.loop-i-preserved
loop-i-preserved c =
    let there : c.loop-i.i < length c.args.lower.now = omega (arith, c.loop-i-test.true, c.if-word-lower.false) in
    alike_further c.args.word.now c.args.lower.now c.loop-i.i c.to_ascii_lowercase.result c.loop-i-test.true there c.to_ascii_lowercase.ensures.value c.if-to_ascii_lowercase-lower.false c.loop-i.invariant

pub returns : goal.returns
returns c = alike_to_the_end c.args.word.now c.args.lower.now c.loop-i.i c.loop-i-test.false c.if-word-lower.false c.loop-i.invariant
