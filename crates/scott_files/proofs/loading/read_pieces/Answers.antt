use Rattle.std.proofs.Common.{◌∙◌, ◌≤◌, ap, subst, arith}
use Rattle.adv_io.specs.Shelf.{ShelfView, IsFile}
use Rattle.scott_files.proofs.loading.read_pieces.Goals as goal

pub returns-then-count-piece : goal.returns-then-count-piece
returns-then-count-piece g c =
    let seen = g.S.Shelf.seen in
    let same = c.loop-reader.invariant.same in
    let less = c.if-count-piece.true in
    let stays = c.read_piece.auto.piece in
    let all = c.in_ok-count.ensures.last (omega (arith, less, stays)) in
    record {
      found = (
        all.0,
        c.finish.ensures.read all.0 all.1,
        record {
          within = all.1.within;
          found = subst (λ (s : ShelfView). IsFile s.files c.args.name.now all.0) same all.2;
        },
      );
      refused = tt;
      files_stay = c.read_piece.ensures.files_stay ∙ ap (λ s. s.files) same;
      later = subst (λ (s : ShelfView). s.faults ≤ (seen c.read_piece.new.shelf).faults) same
          c.read_piece.ensures.later;
      steady = c.in_ok-count.ensures.steady ∙ ap (λ s. s.faults) same;
    }
