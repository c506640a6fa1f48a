use Rattle.std.proofs.Common.{◌≡◌, length, map, arith}
use Rattle.inform_parser.specs.Parts.{part_of}
use Rattle.inform_parser.proofs.CaseSteps.{finished, no_more, case_made}
use Rattle.inform_parser.proofs.parts.cases.Goals as goal

pub returns : goal.returns
returns c =
    let l = c.loop-part in
    let none : length l.part-iterator.rest.items ≡ 0 = omega (arith, c.in-None.ensures.steps.0, l.part-iterator.rest.ok.0) in
    finished l.cases.items c.push-2.new.self.items l.current l.part-iterator.rest.items c.args.first.items (map part_of c.args.parts.items)
    c.in_ok-push.ensures.items (no_more l.part-iterator.rest.items none) (case_made l.current) l.invariant
