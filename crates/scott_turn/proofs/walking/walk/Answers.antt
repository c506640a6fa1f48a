use Rattle.std.proofs.lemmas.Result.{err_from_is_err_and}
use Rattle.std.proofs.Common.{◌≡◌, ◌++◌, cond, [], refl}
use Rattle.scott_types.specs.declared.phrases.Phrase.TheVariants.{DarkMove}
use Rattle.scott_types.specs.Phrase.{text_of}
use Rattle.scott_turn.specs.Ways.{way_text}
use Rattle.adv_io.proofs.Along.{as_ok, as_err}
use Rattle.scott_turn.proofs.Walks.{walk_as_rules, walk_left}
use Rattle.scott_turn.proofs.walking.walk.Goals as goal

pub returns-clause-does : goal.returns-clause-does
returns-clause-does g c =
    let game = c.args.game.now in
    let dark = c.is_dark-dark.result in
    let room = c.exit-room.result in
    let is_room = rw c.db-db.ensures at c.exit-room.ensures.value in
    let said = c.warning.result.now ++ c.way_text.result.now in
    let text : said ≡ cond dark (text_of DarkMove) [] ++ way_text game.style dark room = rw (c.warning.ensures, c.way_text.ensures, c.style.ensures) refl in
    record {
      spoken = walk_as_rules game c.args.noun c.args.state.now room dark said is_room c.is_dark-dark.ensures text (as_ok _ c.in_ok-say_both.ensures);
      left = walk_left game c.args.noun c.args.state.now room dark c.go.new.state c.way_over.result is_room c.is_dark-dark.ensures (c.go.ensures game.style) c.way_over.ensures;
    }

pub returns-in_err-say_both-clause-does : goal.returns-in_err-say_both-clause-does
returns-in_err-say_both-clause-does g c =
    let game = c.args.game.now in
    let dark = c.is_dark-dark.result in
    let room = c.exit-room.result in
    let said = c.warning.result.now ++ c.way_text.result.now in
    let text : said ≡ cond dark (text_of DarkMove) [] ++ way_text game.style dark room = rw (c.warning.ensures, c.way_text.ensures, c.style.ensures) refl in
    let p = err_from_is_err_and c.from_residual.result c.from_residual.ensures.1 in
    rw (p.1) (record {
      spoken = walk_as_rules game c.args.noun c.args.state.now room dark said (rw c.db-db.ensures at c.exit-room.ensures.value) c.is_dark-dark.ensures text (as_err p.0 c.in_err-say_both.ensures);
      left = tt;
    })

pub returns-clause-fits : goal.returns-clause-fits
returns-clause-fits g c =
    let game = c.args.game.now in
    let limits = rw c.db-db.ensures at c.parts-limits.ensures.kept in
    rw (c.go.ensures game.style, c.exit-room.ensures.value, c.db-db.ensures) (c.walk_fits.ensures game c.args.noun c.args.state.now limits c.requires.fits)

pub returns-in_err-say_both-clause-fits : goal.returns-in_err-say_both-clause-fits
returns-in_err-say_both-clause-fits g c =
    let game = c.args.game.now in
    let limits = rw c.db-db.ensures at c.parts-limits.ensures.kept in
    rw (c.go.ensures game.style, c.exit-room.ensures.value, c.db-db.ensures) (c.walk_fits.ensures game c.args.noun c.args.state.now limits c.requires.fits)
