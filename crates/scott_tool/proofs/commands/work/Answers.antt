use Rattle.scott_requests.specs.Views.{request_of}
use Rattle.scott_tool.specs.Views.{texts_in, texts_with, number_of}
use Rattle.scott_tool.specs.Plan.{work}
use Rattle.scott_tool.proofs.Mains.{obeys-kept_main}
use Rattle.scott_tool.proofs.commands.work.Goals as goal

pub returns-in-Check : goal.returns-in-Check
returns-in-Check g c = λ bytes has.
    c.say_made.ensures (work (request_of c.args.request) (texts_with c.args.texts.now bytes))
    (rw c.in-Check.is (c.report_on.ensures bytes has)) (g.S.Shelf.seen c.args.shelf.now)

pub returns-in-Decompile : goal.returns-in-Decompile
returns-in-Decompile g c = λ bytes has.
    c.store_made-in-Decompile.ensures
    (work (request_of c.args.request) (texts_with c.args.texts.now bytes))
    (rw c.in-Decompile.is (c.source_text-made.ensures bytes has))

pub returns-in-Demo : goal.returns-in-Demo
returns-in-Demo g c = λ bytes has.
    let texts = texts_with c.args.texts.now bytes in
    c.say_made-in-Demo.ensures (work (request_of c.args.request) texts)
    (rw c.in-Demo.is (c.told_of.ensures texts)) (g.S.Shelf.seen c.args.shelf.now)

pub returns-in-Play : goal.returns-in-Play
returns-in-Play g c = λ bytes has. rw c.in-Play.is (c.play.ensures bytes has)

pub returns-in-Translate : goal.returns-in-Translate
returns-in-Translate g c = λ bytes has.
    c.store_made-in-Translate.ensures
    (work (request_of c.args.request) (texts_with c.args.texts.now bytes))
    (rw c.in-Translate.is (c.program_text-made.ensures bytes has))

pub returns-in-Transfer : goal.returns-in-Transfer
returns-in-Transfer g c = λ bytes has.
    c.store_made-in-Transfer.ensures
    (work (request_of c.args.request) (texts_with c.args.texts.now bytes))
    (rw c.in-Transfer.is (c.opened_program_text-made.ensures bytes has))

pub returns-in-Hall : goal.returns-in-Hall
returns-in-Hall g c = λ bytes has.
    rw c.in-Hall.is (c.play_hall.ensures bytes has (g.S.Shelf.seen c.args.shelf.now))

pub returns-in-Cover : goal.returns-in-Cover
returns-in-Cover g c = λ bytes has.
    rw c.in-Cover.is (c.cover.ensures bytes has (g.S.Shelf.seen c.args.shelf.now))

-- ---- where the bytes of the main file are kept

pub returns-in-Run : goal.returns-in-Run
returns-in-Run g c =
    let shelf = g.S.Shelf.seen c.args.shelf.now in
    obeys-kept_main c.args.texts.now (rw c.in-Run.is at c.requires.fits.game)
    (request_of c.args.request) shelf shelf (g.C.Console.seen c.args.console.now)
    (g.C.Console.seen c.run.new.console) (number_of c.run.result)
    (rw c.in-Run.is (c.run.ensures shelf))

pub returns-in-Step : goal.returns-in-Step
returns-in-Step g c =
    let shelf = g.S.Shelf.seen c.args.shelf.now in
    obeys-kept_main c.args.texts.now (rw c.in-Step.is at c.requires.fits.game)
    (request_of c.args.request) shelf shelf (g.C.Console.seen c.args.console.now)
    (g.C.Console.seen c.step.new.console) (number_of c.step.result)
    (rw c.in-Step.is (c.step.ensures shelf))

pub returns-in-Calls : goal.returns-in-Calls
returns-in-Calls g c =
    let shelf = g.S.Shelf.seen c.args.shelf.now in
    obeys-kept_main c.args.texts.now (rw c.in-Calls.is at c.requires.fits.game)
    (request_of c.args.request) shelf shelf (g.C.Console.seen c.args.console.now)
    (g.C.Console.seen c.calls.new.console) (number_of c.calls.result)
    (rw c.in-Calls.is (c.calls.ensures shelf))

pub returns-in-Compile : goal.returns-in-Compile
returns-in-Compile g c =
    let request = request_of c.args.request in
    obeys-kept_main c.args.texts.now (rw c.in-Compile.is at c.requires.fits.game) request
    (g.S.Shelf.seen c.args.shelf.now) (g.S.Shelf.seen c.store_made.new.shelf)
    (g.C.Console.seen c.args.console.now) (g.C.Console.seen c.store_made.new.console)
    (number_of c.store_made.result)
    (c.store_made.ensures (work request (texts_in c.args.texts.now))
    (rw c.in-Compile.is c.database_text-made.ensures))

pub returns-in-Simplify : goal.returns-in-Simplify
returns-in-Simplify g c =
    let request = request_of c.args.request in
    let stored = c.store_made-in-Simplify in
    obeys-kept_main c.args.texts.now (rw c.in-Simplify.is at c.requires.fits.game) request
    (g.S.Shelf.seen c.args.shelf.now) (g.S.Shelf.seen stored.new.shelf)
    (g.C.Console.seen c.args.console.now) (g.C.Console.seen stored.new.console)
    (number_of stored.result)
    (stored.ensures (work request (texts_in c.args.texts.now))
    (rw c.in-Simplify.is c.simpler_text-made.ensures))
