use Rattle.std.proofs.Common.{◌≡◌, ◌∙◌, ◌+◌, ◌-◌, ℕ, length, refl, ap, zero-add}
use Rattle.scott_types.specs.Style.{in_style}
use Rattle.scott_turn.specs.Played.{goes}
use Rattle.adv_demo.specs.Summaries.{play_summary, draws_used}
use Rattle.adv_demo.proofs.Ends.{play_is, played}
use Rattle.adv_demo.proofs.playing.play_lines.Goals as goal

pub returns : goal.returns
returns c =
    let opened = c.in_ok-session.session in
    let given = c.new-console.result in
    let draws = c.args.draws.left in
    let plays = c.in-Ok.ensures.plays in
    let t = goes opened given draws in
    let is = play_is opened.game opened.position opened.state c.args.db.now given
    c.args.lines.now draws
    (c.in_ok-session.ensures.game ∙ ap (λ style. in_style style c.args.db.now) c.plain.ensures)
    c.in_ok-session.ensures.position c.in_ok-session.ensures.state c.new-console.ensures in
    let drawn : c.taken.result ≡ draws_used t.events =
    c.taken.ensures.value ∙ plays.leaves.taken
    ∙ ap (λ (n : ℕ). n + draws_used t.events) c.requires ∙ zero-add (draws_used t.events) in
    let used : length c.args.lines.now - c.left.result ≡ length given - length c.play.new.console =
    rw (c.left.ensures, c.new-console.ensures) refl in
    c.summary.ensures
    ∙ played t given c.play.new.console draws (length c.args.lines.now - c.left.result)
    c.taken.result c.in-Ok.ending c.play.new.self.state
    (c.play_spends.ensures opened.game opened.position opened.state given draws)
    used plays.lines drawn plays.leaves.ending plays.leaves.state
    ∙ ap play_summary is
