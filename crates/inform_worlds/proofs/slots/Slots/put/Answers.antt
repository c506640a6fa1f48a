use Rattle.inform_names.specs.Views.{names_of}
use Rattle.inform_worlds.proofs.Slotted.{told}
use Rattle.inform_worlds.proofs.slots.Slots.put.Goals as goal

pub invariant_of-self-clause-right : goal.invariant_of-self-clause-right
invariant_of-self-clause-right c =
    told (names_of c.args.self.now.accepted.now) c.args.self.now.slots.items c.place-first.result c.args.name.now c.number-number.result c.args.meaning c.number-number.ensures c.requires c.args.self.now.right

pub invariant_of-self-then-index-eq0-2-clause-right : goal.invariant_of-self-then-index-eq0-2-clause-right
invariant_of-self-then-index-eq0-2-clause-right c =
    told (names_of c.args.self.now.accepted.now) c.args.self.now.slots.items c.after-then-index-eq0-2.result c.args.name.now c.number-number.result c.args.meaning c.number-number.ensures c.requires c.args.self.now.right
