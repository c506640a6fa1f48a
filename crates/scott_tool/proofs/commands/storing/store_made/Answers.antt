use Rattle.std.proofs.Common.{Result, sym, subst}
use Rattle.scott_tool.specs.Refusal.{Unfit, refusing}
use Rattle.scott_tool.specs.Work.{Task}
use Rattle.scott_tool.specs.Views.{refusal_of, number_of}
use Rattle.scott_tool.specs.Obeying.{Obeys}
use Rattle.scott_tool.proofs.Obeying.{obeys-stored, obeys-not_stored, obeys-declined}
use Rattle.scott_tool.proofs.commands.storing.store_made.Goals as goal

pub returns-in-Ok-store_file : goal.returns-in-Ok-store_file
returns-in-Ok-store_file g c = λ expected makes.
    let shelf = g.S.Shelf.seen c.args.shelf.now in
    let shelf' = g.S.Shelf.seen c.store_file.new.shelf in
    let view = g.C.Console.seen c.args.console.now in
    let made = rw c.in-Ok.is at makes in
    subst (λ (r : Result Task Unfit). Obeys shelf shelf' view view (refusing r) 0) (sym made.1)
    (obeys-stored shelf shelf' view made.0 c.args.name.now c.in-Ok.bytes.items made.2
    (rw c.deref.ensures.value at c.in-Ok-store_file.ensures.stored)
    c.in-Ok-store_file.ensures.steady)

pub returns-in-Ok : goal.returns-in-Ok
returns-in-Ok g c = λ expected makes.
    let shelf = g.S.Shelf.seen c.args.shelf.now in
    let shelf' = g.S.Shelf.seen c.store_file.new.shelf in
    let old = g.C.Console.seen c.args.console.now in
    let new = g.C.Console.seen c.end.new.console in
    let status = (number_of c.end.result) in
    let made = rw c.in-Ok.is at makes in
    subst (λ (r : Result Task Unfit). Obeys shelf shelf' old new (refusing r) status) (sym made.1)
    (obeys-not_stored old new status shelf shelf' made.0 c.args.name.now c.in-Ok.bytes.items made.2
    (refusal_of c.in-Err-store_file.refusal)
    c.in-Err-store_file.ensures.failed c.store_file.ensures.later c.end.ensures)

pub returns : goal.returns
returns g c = λ expected makes.
    obeys-declined (g.C.Console.seen c.args.console.now)
    (g.C.Console.seen c.end-in-Err.new.console) (number_of c.end-in-Err.result)
    (g.S.Shelf.seen c.args.shelf.now) expected (refusal_of c.in-Err.refusal)
    (rw c.in-Err.is at makes) c.end-in-Err.ensures
