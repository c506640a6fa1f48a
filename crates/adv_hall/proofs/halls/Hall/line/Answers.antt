use Rattle.std.proofs.Common.{◌∙◌, ◌-◌, ◌<◌, ◌≤◌, length, slice_set, sym, ap, arith}
use Rattle.scott_rules.specs.Play.{ending_of}
use Rattle.adv_hall.specs.Seats.{is_whole}
use Rattle.std.proofs.lemmas.List.{length-set}
use Rattle.adv_hall.proofs.Seating.{all-set, all-there, others-stay, set-there, there-is}
use Rattle.adv_hall.proofs.halls.Hall.line.Goals as goal

pub invariant_of-self : goal.invariant_of-self
invariant_of-self g c =
    let items = c.self.inside.seats.items in
    let seat = c.index_mut.result.now in
    let last : c.args.k ≤ length items = rw (← c.self.view_is) at c.requires.last in
    let below : c.args.k - 1 < length items = omega (arith, last, c.requires.first) in
    let there = there-is items (c.args.k - 1) seat below c.index_mut.ensures.value in
    λ whole.
    let all = c.self.invariant whole in
    all-set is_whole items (c.args.k - 1) c.hear.new.self all
    (ap is_whole c.in-Ok.ensures.after ∙ all-there is_whole items (c.args.k - 1) seat all there)

pub returns-in-Ok-clause-spoken : goal.returns-in-Ok-clause-spoken
returns-in-Ok-clause-spoken g c =
    let items = c.self.inside.seats.items in
    let seat = c.index_mut.result.now in
    let last : c.args.k ≤ length items = rw (← c.self.view_is) at c.requires.last in
    let below : c.args.k - 1 < length items = omega (arith, last, c.requires.first) in
    let there = there-is items (c.args.k - 1) seat below c.index_mut.ensures.value in
    rw (← c.self.view_is, there) c.in-Ok.ensures.spoken

pub returns-in-Ok-clause-after : goal.returns-in-Ok-clause-after
returns-in-Ok-clause-after g c =
    let items = c.self.inside.seats.items in
    let seat = c.index_mut.result.now in
    let last : c.args.k ≤ length items = rw (← c.self.view_is) at c.requires.last in
    let below : c.args.k - 1 < length items = omega (arith, last, c.requires.first) in
    let there = there-is items (c.args.k - 1) seat below c.index_mut.ensures.value in
    rw (← c.self.view_is, there) (ap (slice_set items (c.args.k - 1)) c.in-Ok.ensures.after)

pub returns-in-Ok-clause-ending : goal.returns-in-Ok-clause-ending
returns-in-Ok-clause-ending g c =
    let items = c.self.inside.seats.items in
    let last : c.args.k ≤ length items = rw (← c.self.view_is) at c.requires.last in
    let below : c.args.k - 1 < length items = omega (arith, last, c.requires.first) in
    rw (set-there items (c.args.k - 1) c.hear.new.self below)
    (c.in-Ok.ensures.ending ∙ ap (λ s. ending_of s.session.position) (sym c.in-Ok.ensures.after))

pub returns-in-Ok-clause-others : goal.returns-in-Ok-clause-others
returns-in-Ok-clause-others g c = λ j other.
    rw (← c.self.view_is)
    (others-stay c.self.inside.seats.items (c.args.k - 1) j c.hear.new.self other)

pub returns-in-Err-clause-spoken : goal.returns-in-Err-clause-spoken
returns-in-Err-clause-spoken g c =
    let items = c.self.inside.seats.items in
    let seat = c.index_mut.result.now in
    let last : c.args.k ≤ length items = rw (← c.self.view_is) at c.requires.last in
    let below : c.args.k - 1 < length items = omega (arith, last, c.requires.first) in
    let there = there-is items (c.args.k - 1) seat below c.index_mut.ensures.value in
    rw (← c.self.view_is, there) c.in-Err.ensures.spoken

pub returns-in-Err-clause-others : goal.returns-in-Err-clause-others
returns-in-Err-clause-others g c = λ j other.
    rw (← c.self.view_is)
    (others-stay c.self.inside.seats.items (c.args.k - 1) j c.hear.new.self other)

pub returns-in-Ok-clause-count : goal.returns-in-Ok-clause-count
returns-in-Ok-clause-count g c =
    rw (← c.self.view_is) (length-set c.self.inside.seats.items (c.args.k - 1) c.hear.new.self)

pub returns-in-Err-clause-count : goal.returns-in-Err-clause-count
returns-in-Err-clause-count g c =
    rw (← c.self.view_is) (length-set c.self.inside.seats.items (c.args.k - 1) c.hear.new.self)
