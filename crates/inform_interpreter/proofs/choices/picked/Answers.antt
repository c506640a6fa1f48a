use Rattle.std.proofs.Common.{◌≡◌, ◌∙◌, ◌+◌, drop, to_z, of_z, w32, rules, sym, ap, arith}
use Rattle.inform_tree.specs.Depths.{cases_depth}
use Rattle.inform_tree.specs.Statements.{statements_of, cases_of}
use Rattle.inform_meaning.specs.Statements.{exec_cases, exec_default}
use Rattle.inform_worlds.specs.Worlds.{program_of}
use Rattle.inform_frames.specs.Frames.{default_of}
use Rattle.inform_interpreter.proofs.Cases.{cases-more, first-fits, first-passes}
use Rattle.inform_interpreter.proofs.choices.picked.Goals as goal

pub returns-then-fits_any-clause-means : goal.returns-then-fits_any-clause-means
returns-then-fits_any-clause-means c = λ call.
    let p = program_of c.args.names.now.accepted.now in
    let xs = c.args.cases.now.items in
    let k = c.loop-case.case-index in
    let item = c.case-item.result in
    let rest = exec_default p call (default_of c.args.rest) in
    let value : to_z w32 (of_z w32 c.args.a) ≡ c.args.a = search rules in
    let more = cases-more xs k item (omega (arith, c.loop-case-test.true, c.loop-case.auto.case-index-end, c.args.cases.now.ok.0))
    (rw (c.deref-case-items.ensures.value) at c.case-item.is) in
    ap (λ a. exec_cases p call a (cases_of xs) rest) (sym value)
    ∙ c.loop-case.invariant.0 call
    ∙ ap (λ cs. exec_cases p call (to_z w32 (of_z w32 c.args.a)) cs rest) more
    ∙ first-fits p call (to_z w32 (of_z w32 c.args.a)) item.choices.items (statements_of item.body.items) (cases_of (drop (k + 1) xs)) rest
    (sym c.fits_any.ensures ∙ c.if-fits_any.true)

pub returns-then-fits_any-clause-deep : goal.returns-then-fits_any-clause-deep
returns-then-fits_any-clause-deep c =
    let xs = c.args.cases.now.items in
    let k = c.loop-case.case-index in
    let item = c.case-item.result in
    let more = cases-more xs k item (omega (arith, c.loop-case-test.true, c.loop-case.auto.case-index-end, c.args.cases.now.ok.0))
    (rw (c.deref-case-items.ensures.value) at c.case-item.is) in
    omega (arith, c.loop-case.invariant.1, ap cases_depth more)

pub loop-case-preserved : goal.loop-case-preserved
loop-case-preserved c =
    let p = program_of c.args.names.now.accepted.now in
    let xs = c.args.cases.now.items in
    let k = c.loop-case.case-index in
    let item = c.case-item.result in
    let value : to_z w32 (of_z w32 c.args.a) ≡ c.args.a = search rules in
    let more = cases-more xs k item (omega (arith, c.loop-case-test.true, c.loop-case.auto.case-index-end, c.args.cases.now.ok.0))
    (rw (c.deref-case-items.ensures.value) at c.case-item.is) in (
      λ call.
          let rest = exec_default p call (default_of c.args.rest) in
          c.loop-case.invariant.0 call
          ∙ ap (λ cs. exec_cases p call (to_z w32 (of_z w32 c.args.a)) cs rest) more
          ∙ first-passes p call (to_z w32 (of_z w32 c.args.a)) item.choices.items (statements_of item.body.items) (cases_of (drop (k + 1) xs)) rest
          (sym c.fits_any.ensures ∙ c.if-fits_any.false),
      omega (arith, c.loop-case.invariant.1, ap cases_depth more),
    )
