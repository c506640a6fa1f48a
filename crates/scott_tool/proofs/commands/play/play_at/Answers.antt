use Rattle.std.proofs.Common.{refl, arith}
use Rattle.std.specs.Option.{option_copied}
use Rattle.scott_tool.specs.Views.{number_of}
use Rattle.scott_tool.proofs.Playing.{obeys-played, obeys-play_broken}
use Rattle.scott_tool.proofs.commands.play.play_at.Goals as goal

pub returns-in-Ok-play : goal.returns-in-Ok-play
returns-in-Ok-play g c =
    let session = c.in-Ok.session in
    let dropped = c.drop_draws.ensures.supplied in
    let played = c.play.ensures.supplied in
    let fresh = c.requires.fresh in
    obeys-played c.args.style c.args.db.now c.args.from c.args.draws.left session.game
    session.position session.state c.drop_draws.new.draws.left c.in-Ok.ensures.game
    c.in-Ok.ensures.position c.in-Ok.ensures.state c.drop_draws.ensures.left
    (g.C.Console.seen c.args.console.now) (g.C.Console.seen c.play.new.console) c.play.new.self
    c.drop_draws.new.draws c.play.new.draws (omega (arith, dropped, played, fresh))
    (g.S.Shelf.seen c.args.shelf.now)
    (g.S.Shelf.seen c.keep_any.new.shelf) (g.C.Console.seen c.keep_any.new.console)
    (number_of c.keep_any.result) c.in-Ok-play.field-0 c.in-Ok-play.ensures.plays
    c.in-Ok-play.ensures.cause (option_copied c.args.save) c.keep_any.ensures

pub returns-in-Ok : goal.returns-in-Ok
returns-in-Ok g c =
    let session = c.in-Ok.session in
    let dropped = c.drop_draws.ensures.supplied in
    let played = c.play.ensures.supplied in
    let fresh = c.requires.fresh in
    obeys-play_broken c.args.style c.args.db.now c.args.from c.args.draws.left session.game
    session.position session.state c.drop_draws.new.draws.left c.in-Ok.ensures.game
    c.in-Ok.ensures.position c.in-Ok.ensures.state c.drop_draws.ensures.left
    (g.C.Console.seen c.args.console.now) (g.C.Console.seen c.play.new.console) c.play.new.self
    c.drop_draws.new.draws c.play.new.draws (omega (arith, dropped, played, fresh))
    (g.S.Shelf.seen c.args.shelf.now) 3
    c.in-Err-play.field-0 (option_copied c.args.save) refl c.in-Err-play.ensures.plays
    c.in-Err-play.ensures.cause
