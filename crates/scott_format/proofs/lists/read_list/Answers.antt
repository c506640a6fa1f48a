use Rattle.std.proofs.Common.{◌≡◌, ℕ, ◌+◌, ◌<◌, List, length, refl, sym, ap, ◌∙◌, arith}
use Rattle.std.proofs.lemmas.Result.{err_from_is_err_and}
use Rattle.scott_format.proofs.ListSteps.{stay, list_goes, list_halts}
use Rattle.scott_format.proofs.lists.read_list.Goals as goal

pub more-init : goal.more-init
more-init g c = (λ go_on. stay _ _ _ refl, omega arith)

pub more-preserved : goal.more-preserved
more-preserved g c =
    let is : c.len-k.result ≡ length c.more.entries.items = omega (arith, c.len-k.ensures, c.more.entries.ok.0) in
    let less : length c.more.entries.items < c.args.highest + 1 = omega (arith, c.len.ensures, c.more-test.true, c.more.entries.ok.0) in
    let size = ap (λ (xs : List _). length xs) c.in_ok-push.ensures.items in (
      list_goes g.P.Piece.plan c.args.highest c.args.entries.now.items c.more.entries.items c.len-k.result c.args.scan.now c.more.scan c.read_entry.new.scan is less c.more.invariant.0
          c.in_ok-entry.entry c.push.new.self.items c.due_after.result c.in_ok-push.ensures.items c.in_ok-entry.ensures,
      omega (arith, c.more.invariant.1, c.in_ok-push.ensures.len, c.more.entries.ok.0, c.push.new.self.ok.0),
    )

pub returns-in_err-entry-clause-advances : goal.returns-in_err-entry-clause-advances
returns-in_err-entry-clause-advances g c =
    let p = err_from_is_err_and c.from_residual.result c.from_residual.ensures.1 in
    let is : c.len-k.result ≡ length c.more.entries.items = omega (arith, c.len-k.ensures, c.more.entries.ok.0) in
    let less : length c.more.entries.items < c.args.highest + 1 = omega (arith, c.len.ensures, c.more-test.true, c.more.entries.ok.0) in
    rw (p.1, p.2)
    (list_halts g.P.Piece.plan c.args.highest c.args.entries.now.items c.more.entries.items c.len-k.result c.args.scan.now c.more.scan c.read_entry.new.scan is less c.more.invariant.0
    (Unit {0}) c.args.then c.due_after.result c.in_err-entry.field-0.0 c.more.invariant.1 c.due_after.ensures.another c.due_after.ensures.last c.in_err-entry.ensures)

pub returns-in_err-entry-clause-grows : goal.returns-in_err-entry-clause-grows
returns-in_err-entry-clause-grows g c = c.more.invariant.1

pub returns-in_err-push-clause-advances : goal.returns-in_err-push-clause-advances
returns-in_err-push-clause-advances g c =
    let p = err_from_is_err_and c.from_residual-in_err-push.result c.from_residual-in_err-push.ensures.1 in
    rw (p.1, p.2) (λ go_on due more. tt)

pub returns-in_err-push-clause-grows : goal.returns-in_err-push-clause-grows
returns-in_err-push-clause-grows g c =
    omega (arith, c.more.invariant.1, ap (λ (xs : List _). length xs) c.in_err-push.ensures.items)

pub returns-clause-advances : goal.returns-clause-advances
returns-clause-advances g c = λ go_on due. c.more.invariant.0 go_on

pub returns-clause-grows : goal.returns-clause-grows
returns-clause-grows g c = c.more.invariant.1
