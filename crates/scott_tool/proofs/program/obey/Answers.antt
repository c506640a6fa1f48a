use Rattle.std.proofs.Common.{◌≡◌, refl, subst}
use Rattle.adv_io.specs.Shelf.{ShelfView}
use Rattle.scott_requests.specs.Views.{request_of}
use Rattle.scott_tool.specs.Views.{refusal_of, texts_with, number_of}
use Rattle.scott_tool.specs.Refusal.{refusing}
use Rattle.scott_tool.specs.Plan.{work}
use Rattle.scott_tool.specs.Obeying.{Obeys, not_loaded, worked}
use Rattle.scott_tool.proofs.program.obey.Goals as goal

pub returns-in-Ok : goal.returns-in-Ok
returns-in-Ok g c =
    let fetched = c.in-Ok.ensures.fetched in
    let before = g.S.Shelf.seen c.args.shelf.now in
    let loaded = g.S.Shelf.seen c.load_texts.new.shelf in
    let same : record { files = loaded.files; faults = loaded.faults }
    ≡ before = λ i. record { files = fetched.files_stay i; faults = fetched.steady i } in
    let bytes = fetched.found.0 in
    let texts = texts_with c.in-Ok.texts bytes in
    worked (request_of c.args.request) texts refl fetched.found.2
    (subst (λ (s : ShelfView). Obeys s (g.S.Shelf.seen c.work-status.new.shelf)
    (g.C.Console.seen c.args.console.now) (g.C.Console.seen c.work-status.new.console)
    (refusing (work (request_of c.args.request) texts)) (number_of c.work-status.result)) same
    (c.work-status.ensures bytes fetched.found.1))

pub returns-in-Err : goal.returns-in-Err
returns-in-Err g c =
    let fetched = c.in-Err.ensures.fetched in
    not_loaded (request_of c.args.request) (refusal_of c.in-Err.refusal) refl fetched.missed
    fetched.files_stay fetched.later c.end.ensures
