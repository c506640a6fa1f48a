use Rattle.std.proofs.Common.{◌≡◌, ◌∙◌, length, ◌+◌, ap}
use Rattle.std.specs.Prelude.{IsTrue}
use Rattle.adv_hall.specs.Seats.{is_whole, seat_opened, seats_opened}
use Rattle.adv_hall.proofs.Seating.{one_more, none_left, all-more, count-opened}
use Rattle.adv_hall.proofs.halls.Hall.open.Goals as goal

pub loop-k-preserved : goal.loop-k-preserved
loop-k-preserved c =
    let db = c.args.db.now in
    let seat = c.in_ok-open.field-0 in
    let seats = c.loop-k.seats.items in
    let is : seat ≡ seat_opened db (c.loop-k.k + 1) = c.in_ok-open.ensures in
    let whole : IsTrue (is_whole seat) = ap is_whole is in
    rw c.in_ok-push.ensures.items
    (record {
      all = one_more db seats (seats_opened db 1 c.args.count) seat c.loop-k.k c.args.count
          c.loop-k-test.true is c.loop-k.invariant.all;
      whole = all-more is_whole seats seat c.loop-k.invariant.whole whole;
    })

pub returns-clause-count : goal.returns-clause-count
returns-clause-count c =
    let db = c.args.db.now in
    let all = none_left db c.loop-k.seats.items (seats_opened db 1 c.args.count) c.loop-k.k
    c.args.count c.loop-k-test.false c.loop-k.invariant.all in
    ap length all ∙ count-opened db 1 c.args.count
