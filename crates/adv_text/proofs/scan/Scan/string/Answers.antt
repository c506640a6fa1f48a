use Rattle.std.proofs.Common.{◌≡◌, ◌∙◌, sym, ap}
use Rattle.adv_text.specs.Reading.{Input}
use Rattle.adv_text.proofs.Turns.{after_piece, place_after_piece}
use Rattle.adv_text.proofs.scan.Scan.string.Goals as goal

pub loop-text-preserved : goal.loop-text-preserved
loop-text-preserved c =
    let rest = c.loop-text.rest.now in
    let size = c.in-Some.length in
    let piece = rw c.in-Some.is at c.in_ok-length.ensures.piece in
    let opened : c.self.inside.at ≡ c.args.self.now.at = ap (λ (s : Input). s.at) c.self.view_is in
    record {
      short = c.in_ok-length.ensures.short;
      place = rw (after_piece size rest) (place_after_piece c.loop-text.at size _ rest piece.1 c.loop-text.invariant.place);
      same = rw (after_piece size rest) (sym (rw opened at (piece.2 c.loop-text.at)) ∙ c.loop-text.invariant.same);
    }
