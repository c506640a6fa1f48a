use Rattle.std.proofs.Common.{refl, sym, ◌∙◌}
use Rattle.scott_format.proofs.ListSteps.{the_spot, entry_ended, entry_was_taken, entry_cut, entry_stops, stands_here}
use Rattle.scott_format.proofs.lists.read_entry.Goals as goal

pub returns-then-is_empty : goal.returns-then-is_empty
returns-then-is_empty g c =
    let ahead = the_spot c.on-ahead.result c.args.scan.now c.at.result c.rest.result.now c.on-ahead.ensures c.at.ensures c.rest.ensures.value in (
      refl,
      entry_ended (g.P.Piece.plan c.args.k) c.args.scan.now c.on-ahead.result ahead c.in-Ok.entry c.read.new.scan c.args.then c.missing.result c.at-then-is_empty.result
          c.rest-in-Ok.result.now c.is_empty.result c.in-Ok.ensures c.missing.ensures c.at-then-is_empty.ensures c.rest-in-Ok.ensures.value c.is_empty.ensures c.if-is_empty.true,
    )

pub returns-else-is_empty : goal.returns-else-is_empty
returns-else-is_empty g c =
    let ahead = the_spot c.on-ahead.result c.args.scan.now c.at.result c.rest.result.now c.on-ahead.ensures c.at.ensures c.rest.ensures.value in
    entry_was_taken (g.P.Piece.plan c.args.k) c.args.scan.now c.on-ahead.result ahead c.requires c.args.then c.in-Ok.entry c.read.new.scan c.rest-in-Ok.result.now c.is_empty.result
    (g.met.P.Piece.steady c.args.k) c.in-Ok.ensures c.rest-in-Ok.ensures.value c.is_empty.ensures c.if-is_empty.false

pub returns-then-settles : goal.returns-then-settles
returns-then-settles g c =
    let ahead = the_spot c.on-ahead.result c.args.scan.now c.at.result c.rest.result.now c.on-ahead.ensures c.at.ensures c.rest.ensures.value in
    entry_stops (g.P.Piece.plan c.args.k) c.args.scan.now c.requires c.in-Err.fault (g.met.P.Piece.steady c.args.k)
    (stands_here (g.P.Piece.plan c.args.k) c.args.scan.now c.on-ahead.result ahead c.in-Err.fault c.in-Err.ensures) (sym c.settles.ensures ∙ c.if-settles.true)

pub returns-else-settles : goal.returns-else-settles
returns-else-settles g c =
    let ahead = the_spot c.on-ahead.result c.args.scan.now c.at.result c.rest.result.now c.on-ahead.ensures c.at.ensures c.rest.ensures.value in (
      refl,
      λ go_on due. entry_cut (g.P.Piece.plan c.args.k) c.args.scan.now go_on c.in-Err.fault
          (stands_here (g.P.Piece.plan c.args.k) c.args.scan.now c.on-ahead.result ahead c.in-Err.fault c.in-Err.ensures) (sym c.settles.ensures ∙ c.if-settles.false),
    )
