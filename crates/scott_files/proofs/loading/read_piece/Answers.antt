use Rattle.std.proofs.Common.{◌≡◌, length, take, arith}
use Rattle.std.proofs.lemmas.List.{length-take-le}
use Rattle.scott_files.proofs.Parts.{fed_after, first_after, all_after}
use Rattle.scott_files.proofs.loading.read_piece.Goals as goal

pub returns-in-Ok : goal.returns-in-Ok
returns-in-Ok g c =
    let known = (g.S.Shelf.seen c.args.shelf.now).files in
    let name = c.args.name.now in
    let before = c.args.reader.now in
    let after = c.feed.new.self in
    let count = c.in_ok-count.count in
    let room = length c.args.piece.now in
    let part = take count c.load_piece.new.piece in
    let few = c.in_ok-count.ensures.room in
    let within = c.in_ok-count.ensures.within in
    let same = c.load_piece.auto.piece in
    let counted : length part ≡ count
    = length-take-le count c.load_piece.new.piece (omega (arith, few, same)) in
    let is = c.in_ok-count.ensures.found in
    let at_end = c.requires.fed in
    let fed = fed_after known name before after c.args.at room part is at_end c.requires.first
    c.feed.ensures.read in
    record {
      fed = omega (arith, fed, counted);
      within = omega (arith, fed, counted, at_end, within);
      first = first_after known name before after c.args.at room part is at_end c.requires.first
          c.feed.ensures.read;
      last = λ less. all_after known name before after c.args.at room part is at_end
          c.requires.first c.feed.ensures.read (omega (arith, less, counted));
      refused = tt;
      files_stay = c.load_piece.ensures.files_stay;
      later = c.load_piece.ensures.later;
      steady = c.in_ok-count.ensures.steady;
    }
