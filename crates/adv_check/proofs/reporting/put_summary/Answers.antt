use Rattle.std.proofs.Common.{length, codes}
use Rattle.adv_check.specs.Report.{counted}
use Rattle.adv_check.proofs.Joined.{six_written}
use Rattle.adv_check.proofs.reporting.put_summary.Goals as goal

pub returns : goal.returns
returns c =
    let db = c.args.db.now in
    six_written c.args.out.now.items
    c.put_counted.new.out.items c.put_counted-2.new.out.items c.put_counted-3.new.out.items c.put_counted-4.new.out.items c.put_counted-5.new.out.items c.push.new.self.items
    (counted (codes "rooms ") (length db.rooms)) (counted (codes ", items ") (length db.items)) (counted (codes ", lines ") (length db.actions))
    (counted (codes ", words ") (length db.words)) (counted (codes ", messages ") (length db.messages)) (codes "\n")
    (rw c.rooms.ensures.value at c.in_ok-put_counted.ensures) (rw c.items.ensures.value at c.in_ok-put_counted-2.ensures)
    (rw c.actions.ensures.value at c.in_ok-put_counted-3.ensures) (rw c.words.ensures.value at c.in_ok-put_counted-4.ensures)
    (rw c.messages.ensures.value at c.in_ok-put_counted-5.ensures) c.in_ok-push.ensures.items
