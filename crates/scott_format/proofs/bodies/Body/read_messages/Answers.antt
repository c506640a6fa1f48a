use Rattle.std.proofs.Common.{arith}
use Rattle.scott_format.specs.Sections.{item}
use Rattle.scott_format.specs.Bodies.{item_count, from_items, from_comments}
use Rattle.scott_format.proofs.ListSteps.{same_advances, list_due}
use Rattle.scott_format.proofs.BodySteps.{on_ok_with, to_messages}
use Rattle.scott_format.proofs.bodies.Body.read_messages.Goals as goal

pub returns-clause-advances : goal.returns-clause-advances
returns-clause-advances c =
    same_advances _ _ _ _ c.args.scan.now c.read_list.new.scan c.read_list.result (to_messages c.args.self.now c.requires.read) (to_messages (record c.args.self.now { messages = c.read_list.new.entries }) c.requires.read) (c.read_list.ensures.advances (from_items c.args.self.now c.args.self.now.actions.items c.args.self.now.words.items c.args.self.now.rooms.items) (λ short all. list_due (λ k. item) (item_count c.args.self.now) (from_comments c.args.self.now c.args.self.now.actions.items c.args.self.now.words.items c.args.self.now.rooms.items all) c.args.self.now.items.items (omega (arith, c.requires.order.items short)) c.first.result (c.first.ensures 0)))

pub returns-clause-order : goal.returns-clause-order
returns-clause-order c = record {
  words = c.requires.order.words;
  rooms = c.requires.order.rooms;
  messages = λ short. absurd (omega (arith, short, c.requires.read.1));
  items = λ short. c.requires.order.items (omega (arith, short, c.read_list.ensures.grows));
  comments = c.requires.order.comments;
}

pub returns-clause-read : goal.returns-clause-read
returns-clause-read c = on_ok_with _ c.read_list.result c.requires.read c.read_list.ensures.full
